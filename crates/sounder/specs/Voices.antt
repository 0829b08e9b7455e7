-- The answer on a making as it crosses to C.
use Rattle.making.specs.Making.{Made}
use Rattle.sounder.specs.Answer.{refusal_answer}
use Rattle.sounder.specs.declared.voices.MadeAnswer.{MadeAnswer}

abbrev pub made_answer : Made → MadeAnswer
made_answer m = record { answer = refusal_answer m.refusal; voice = m.voice }
