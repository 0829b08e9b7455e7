-- `lists_of` meets its contract.
use lib.Ieee.{binary32, of_bits, round}
use Rattle.making.proofs.ListLaws.{lists-put}
use Rattle.making.proofs.lists.lists_of.Goals as goal

pub returns : goal.returns
unfolding of_bits round
returns c =
    lists-put (of_bits binary32 0) c.args.cols.f0_hz c.args.cols.stretch c.args.cols.mainlobe_gain c.args.cols.noise_gain _
    c.put_list-pitches.result c.put_list-stretches.result c.put_list-mainlobes.result c.put_list-noises.result c.put_list.result
    c.put_list-pitches.ensures.1 c.put_list-stretches.ensures.1 c.put_list-mainlobes.ensures.1 c.put_list-noises.ensures.1
    c.put_list-pitches.ensures.0 c.put_list-stretches.ensures.0 c.put_list-mainlobes.ensures.0 c.put_list-noises.ensures.0 c.put_list.ensures.0
