-- A block: 0 to 128 samples by 1 to 8 channels, channel after channel. Each channel starts from the block's start.
use Rattle.std.specs.Prelude.{ℕ, List, Float}
use Rattle.voice.specs.Lists.{up_to, steps, join_to}
use Rattle.voice.specs.Input.{Call, frequency_at, gains_at, cleaned}
use Rattle.player.specs.Sound.{moved, sound}
use Rattle.voice.specs.declared.voice.State.{State}
use Rattle.voice.specs.declared.voice.Voice.{Voice}

-- the state before sample i of a channel, where freq gives its frequencies
unfoldable pub state_at : Voice → (ℕ → Float) → ℕ → State
state_at v freq i = steps (λ t s. moved v (cleaned (freq t)) s) v.state i

-- a channel's n samples
unfoldable pub channel_out : Voice → (ℕ → Float) → (ℕ → List Float) → ℕ → List Float
channel_out v freq g n = up_to (λ i. sound v (state_at v freq i) (cleaned (freq i)) (g i)) n

unfoldable pub block_out : Voice → Call → List Float
block_out v c = join_to (λ ch. channel_out v (frequency_at c ch) (gains_at c ch) c.shape.samples) c.shape.channels

-- only channel 0's end is kept
abbrev pub block_end : Voice → Call → State
block_end v c = state_at v (frequency_at c 0) c.shape.samples
