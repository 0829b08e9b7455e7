-- The limits of a voice and of a block, each by its name.
use Rattle.std.specs.Prelude.{ℕ}

-- of a voice: entries, partials, noise bands, and channels that a blend takes
abbrev pub max_entries : ℕ
max_entries = 16

abbrev pub max_partials : ℕ
max_partials = 32

abbrev pub max_bands : ℕ
max_bands = 16

abbrev pub max_blended : ℕ
max_blended = 4

-- of a block: samples of a channel, and channels of an input or of the output
abbrev pub max_samples : ℕ
max_samples = 128

abbrev pub max_channels : ℕ
max_channels = 8

-- the highest pitch and the highest finite frequency, in Hz
abbrev pub max_hz : ℕ
max_hz = 20000

-- ---- how a voice lies: the places of a short list, how many short lists there are, and the places of all of them; those of an entry's
-- coefficients, of partials and of noise, over the channels of a blend; those of all entries; and the memories, two a band
abbrev pub list_places : ℕ
list_places = 16

abbrev pub short_lists : ℕ
short_lists = 11

abbrev pub lists_places : ℕ
lists_places = 176

abbrev pub entry_partials : ℕ
entry_partials = 128

abbrev pub entry_noise : ℕ
entry_noise = 64

abbrev pub partials_places : ℕ
partials_places = 2048

abbrev pub noise_places : ℕ
noise_places = 1024

abbrev pub memory_places : ℕ
memory_places = 32
