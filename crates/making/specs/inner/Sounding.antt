-- What a voice sounds, as the code holds it. Cited by private functions only.
use Rattle.std.specs.Prelude.{List}
use Rattle.table.specs.declared.desk.Kind.{Kind}
use Rattle.table.specs.Table.{PitchEntry}
use Rattle.making.specs.Making.{channel_count}
use Rattle.making.specs.declared.sounding.Sounding.{Sounding}

-- a voice of a kind sounds as many channels of these entries
abbrev pub sounding_of : Kind → List PitchEntry → Sounding
sounding_of kind es = record { kind = kind; channels = channel_count kind es }
