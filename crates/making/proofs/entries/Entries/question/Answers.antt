use mathlib.Core.Path.{refl, sym, ap, ◌∙◌}
use Prim.Native.Nat.{ℕ}
use Rattle.making.specs.Making.{table_question, centres_ok}
use Rattle.making.proofs.ViewLaws.{limits-are}
use Rattle.making.proofs.entries.Entries.question.Goals as goal

pub returns-then-not-sizes_ok : goal.returns-then-not-sizes_ok
unfolding table_question
returns-then-not-sizes_ok c =
    rw (limits-are c.args.self.now, sym c.sizes_ok.ensures ∙ c.if-not-sizes_ok.true) refl

pub returns-in-Some : goal.returns-in-Some
unfolding table_question
returns-in-Some c =
    rw (limits-are c.args.self.now, sym c.sizes_ok.ensures ∙ c.if-not-sizes_ok.false) (c.in-Some.ensures _)

pub returns-then-not-channel_found : goal.returns-then-not-channel_found
unfolding table_question
returns-then-not-channel_found c =
    rw (limits-are c.args.self.now, sym c.sizes_ok.ensures ∙ c.if-not-sizes_ok.false, sym c.channel_found.ensures ∙ c.if-not-channel_found.true) (c.in_default.ensures _)

pub returns-then-not-rate_ok : goal.returns-then-not-rate_ok
unfolding table_question
returns-then-not-rate_ok c =
    rw (limits-are c.args.self.now, sym c.sizes_ok.ensures ∙ c.if-not-sizes_ok.false, sym c.channel_found.ensures ∙ c.if-not-channel_found.false, sym c.rate_ok.ensures ∙ c.if-not-rate_ok.true) (c.in_default.ensures _)

pub returns-then-not-centres_ok : goal.returns-then-not-centres_ok
unfolding table_question
returns-then-not-centres_ok c =
    let q = ap (λ (n : ℕ). centres_ok n c.args.centres.now) (sym c.band_count.ensures) ∙ sym c.centres_ok.ensures ∙ c.if-not-centres_ok.true in
    rw (limits-are c.args.self.now, sym c.sizes_ok.ensures ∙ c.if-not-sizes_ok.false, sym c.channel_found.ensures ∙ c.if-not-channel_found.false, sym c.rate_ok.ensures ∙ c.if-not-rate_ok.false, q) (c.in_default.ensures _)

pub returns : goal.returns
unfolding table_question
returns c =
    let q = ap (λ (n : ℕ). centres_ok n c.args.centres.now) (sym c.band_count.ensures) ∙ sym c.centres_ok.ensures ∙ c.if-not-centres_ok.false in
    rw (limits-are c.args.self.now, sym c.sizes_ok.ensures ∙ c.if-not-sizes_ok.false, sym c.channel_found.ensures ∙ c.if-not-channel_found.false, sym c.rate_ok.ensures ∙ c.if-not-rate_ok.false, q) (c.in_default.ensures _)
