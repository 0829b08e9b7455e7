-- The answers as the numbers that cross to C.
use Rattle.std.specs.Prelude.{ℕ, zero, suc, length}
use Rattle.wire.specs.Parse.{Refusal, Parsed, ok, refused}
use Rattle.table.specs.Table.{CoeffTable}
use Rattle.table.specs.Decode.{name_of}
use Rattle.table.specs.Name.{name_start}
use Rattle.table.specs.declared.desk.Kind.{Kind}
use Rattle.table.specs.Desk.{Outcome, desk, refused_by}
use Rattle.sounder.specs.declared.answer.Answer.{Answer}
use Rattle.sounder.specs.declared.images.Place.{Place}
use Rattle.sounder.specs.declared.images.DeskAnswer.{DeskAnswer}

-- a refusal: the question's number and the values that it names
abbrev pub refusal_answer : Refusal → Answer
refusal_answer r = record { number = r.number; first = r.first; second = r.second }

-- accepted: number 0 and two values, as the entry count and the end of a read
abbrev pub done : ℕ → ℕ → Answer
done a b = record { number = 0; first = a; second = b }

abbrev pub counts_answer : Parsed ℕ → Answer
counts_answer (ok n end) = done n end
counts_answer (refused r) = refusal_answer r

-- the place of the name in the image; a refused image has the empty part at 0
abbrev pub name_place : Parsed CoeffTable → Place
name_place p = record { start = name_start p; len = length (name_of p) }

-- a voice's kind by number: 0 is a single voice of the channel, any other number a blend
abbrev pub kind_of : ℕ → ℕ → Kind
kind_of zero channel = Kind.Single channel
kind_of (suc n) channel = Kind.Blend

-- what the desk gets; 0 for each of its numbers where the image is refused
abbrev pub desk_numbers : Outcome → DeskAnswer
desk_numbers (desk d) = record { answer = done 0 0; bands = d.bands; min_hz = d.min_hz; max_hz = d.max_hz }
desk_numbers (refused_by r) = record { answer = refusal_answer r; bands = 0; min_hz = 0; max_hz = 0 }
