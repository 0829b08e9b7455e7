-- What the answers of `make` mean: a refusal has its question's number and the values that it names (0 where it names none), and no voice.
use Rattle.std.specs.Prelude.{Result, Ok, Err}
use Rattle.wire.specs.Parse.{Refusal, refusal}
use Rattle.table.specs.Answer.{refusal_of}
use Rattle.voice.specs.declared.voice.Voice.{Voice}
use Rattle.making.specs.Making.{Made, blank_voice}
use Rattle.making.specs.declared.error.MakeError.{MakeError}

abbrev pub make_refusal : MakeError → Refusal
make_refusal (MakeError.Refused e) = refusal_of e
make_refusal MakeError.TooLarge = refusal 8 0 0
make_refusal (MakeError.BadEntry i) = refusal 9 i 0
make_refusal MakeError.NoChannel = refusal 10 0 0
make_refusal MakeError.BadRate = refusal 11 0 0
make_refusal MakeError.BadCentres = refusal 12 0 0

-- where nothing is refused the number is 0; a refused making makes the blank voice
abbrev pub made_of : Result Voice MakeError → Made
made_of (Ok v) = record { refusal = refusal 0 0 0; voice = v }
made_of (Err e) = record { refusal = make_refusal e; voice = blank_voice }
