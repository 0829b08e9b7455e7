use mathlib.Core.Path.{refl}
use borrow.Author.Tests.{lt-leb}
use Rattle.making.proofs.CoeffLaws.{partials-are, size-yes}
use Rattle.making.proofs.limits.size_ok.Goals as goal

pub returns-then-v-le-MAX_PARTIALS : goal.returns-then-v-le-MAX_PARTIALS
returns-then-v-le-MAX_PARTIALS c = λ s. size-yes s c.args.v c.if-v-le-MAX_PARTIALS.true

pub returns-else-v-le-MAX_PARTIALS : goal.returns-else-v-le-MAX_PARTIALS
returns-else-v-le-MAX_PARTIALS c = λ s. rw (partials-are s c.args.v, lt-leb c.args.v.m_partials 32 c.if-v-le-MAX_PARTIALS.false) refl
