-- `init` meets its contract.
use Rattle.std.proofs.Common.{ℕ, take, ap, ◌∙◌, rules}
use Rattle.voice.specs.inner.BandArrays.{band_arrays}
use Rattle.voice.proofs.InitLaws.{init-put}
use Rattle.voice.proofs.bands.init.Goals as goal

pub returns : goal.returns
returns c =
    init-put c.args.lists c.put_bands-with_bands.result c.put_list.result c.short_list.result.now c.args.j c.args.sample_rate c.init_bands-bands.result
    (search rules) c.short_list.ensures.list
    (c.init_bands-bands.ensures ∙ ap (λ (n : ℕ). band_arrays (take n c.short_list.result.now) c.args.sample_rate) c.min.ensures)
    c.put_bands-with_bands.ensures c.put_list.ensures.0
