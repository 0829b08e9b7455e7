-- A block's loop over the channels behind the first, which is played last.
use Rattle.std.proofs.Common.{◌≡◌, ℕ, ◌+◌, ◌*◌, ◌≤◌, ◌<◌, List, ◌++◌, length, take, drop, sym, ◌∙◌, arith}
use Rattle.std.specs.Prelude.{Float}
use lib.Seq.{length-take-le}
use Rattle.voice.specs.Input.{Call, frequency_at, gains_at}
use Rattle.voice.specs.Lists.{join_to}
use Rattle.voice.specs.declared.voice.State.{State}
use Rattle.voice.specs.declared.voice.Voice.{Voice}
use Rattle.voice.proofs.Loops.{join_to-again, join_to-full, behind, behind-at, behind-sized, behind-first, behind-last, row-end, small_product}
use Rattle.player.specs.Block.{channel_out, block_out}
use Rattle.player.specs.inner.Passes.{BlockFits, ChannelPlayed, BlockPlayed}
use Rattle.player.proofs.SoundLaws.{length-channel}

-- what channel ch of a call plays
abbrev pub part : Voice → Call → ℕ → List Float
part v c ch = channel_out v (frequency_at c ch) (gains_at c ch) c.shape.samples

-- of the output `out` the channels behind the first are written, as far as channel ch: `now` is what is there
pub record Behind (v : Voice) (c : Call) (out now : List Float) (ch : ℕ) : Type 0 where
  pub long : length now ≡ c.shape.channels * c.shape.samples
  pub written : now ≡ join_to (behind (take c.shape.samples out) (part v c)) ch ++ drop (ch * c.shape.samples) out

module _ (v : Voice) (c : Call) (B : BlockFits c.shape) (out : List Float) (L : length out ≡ c.shape.channels * c.shape.samples) where
  abbrev n : ℕ
  n = c.shape.samples

  sized : (ch : ℕ) → length (part v c ch) ≡ n
  sized ch = length-channel v (frequency_at c ch) (gains_at c ch) n

  -- the place of a channel
  pub channel-within : (ch : ℕ) → ch < c.shape.channels → (ch * n + n ≤ c.shape.channels * n) × (c.shape.channels * n ≤ 1024)
  channel-within ch h = (row-end ch c.shape.channels n h, small_product c.shape.channels n B.2 B.0)

  pub head_in : (len : ℕ) → len ≡ c.shape.channels * n → n ≤ len
  head_in len e = omega (arith, row-end 0 c.shape.channels n B.1, e)

  head-long : length (take n out) ≡ n
  head-long = length-take-le n out (head_in (length out) L)

  others-sized : (ch : ℕ) → length (behind (take n out) (part v c) ch) ≡ n
  others-sized = behind-sized (part v c) n sized (take n out) head-long

  pub behind-none : Behind v c out out 1
  behind-none = record { long = L; written = behind-first (part v c) n sized out }

  -- LAW: a channel more
  pub behind-again : (ch k : ℕ) (now new ys : List Float) (end : State) → 1 ≤ ch → k ≡ n → length new ≡ length now → Behind v c out now ch
      → ChannelPlayed v (frequency_at c ch) (gains_at c ch) n end ys → new ≡ take (ch * n) now ++ (ys ++ drop k (drop (ch * n) now)) → Behind v c out new (ch + 1)
  behind-again ch k now new ys end h q l W P e = record {
    long = l ∙ W.long;
    written =
        e
        ∙ join_to-again (behind (take n out) (part v c)) n others-sized ch k out now ys q W.written
        (P.written ∙ sym (behind-at (take n out) (part v c) ch h));
  }

  -- LAW: and then the first
  pub block-is-played : (ch : ℕ) (now ys : List Float) (end : State) → ch ≡ c.shape.channels → Behind v c out now ch
      → ChannelPlayed v (frequency_at c 0) (gains_at c 0) n end ys → BlockPlayed v c end (ys ++ drop n now)
  unfolding block_out
  block-is-played ch now ys end q W P = record {
    ends = P.ends;
    written =
        behind-last (part v c) n sized (take n out) now ys c.shape.channels head-long B.1
        (join_to-full (behind (take n out) (part v c)) n others-sized ch c.shape.channels out now q L W.written) P.written;
  }
