-- Making a voice: what a table's entries become, and questions 8 to 12. (1 to 7 are the table's.)
use Rattle.std.specs.Prelude.{ℕ, zero, suc, ◌+◌, ◌*◌, ◌/◌, ◌%◌, max, min, List, [], ◌∷◌, ◌++◌, map, Bool, true, false, ◌&&◌, ◌||◌, cond, length, replicate, leb, ltb, eqb, Float}
use Rattle.std.proofs.Math.Option.{Option, some, none}
use Rattle.std.specs.Float.{binary32}
use Rattle.std.specs.Float.Ieee.{of_bits, lt, ne}
use Rattle.std.specs.Float.Ieee.Scale.{finite}
use Rattle.wire.specs.Parse.{Refusal, refusal, Parsed, ok, refused}
use Rattle.table.specs.declared.desk.Kind.{Kind}
use Rattle.table.specs.Table.{PitchEntry, CoeffTable, m_partials, has_channel, coefficient_at, metadata_value}
use Rattle.table.specs.Decode.{decode, entries_of}
use Rattle.table.specs.Desk.{band_count}
use Rattle.float.specs.F32.{quotient}
use Rattle.voice.specs.Lists.{up_to, padded}
use Rattle.voice.specs.Limits.{max_entries, max_partials, max_bands, max_blended, lists_places, partials_places, noise_places}
use Rattle.voice.specs.Voice.{pitch_ok, stretch_ok, rate_ok, voice_of, state_of, no_memories, first_state}
use Rattle.voice.specs.Bands.{init_floats}
use Rattle.voice.specs.Question.{accepted}
use Rattle.voice.specs.declared.voice.Voice.{Voice}

-- a table's 32 bits as a float
abbrev pub f32 : ℕ → Float
f32 b = of_bits binary32 b

-- all of a list pass a test, or any of it
unfoldable pub all : {A : Type 0} → (A → Bool) → List A → Bool
all f [] = true
all f (a ∷ l) = f a && all f l

unfoldable pub any : {A : Type 0} → (A → Bool) → List A → Bool
any f [] = false
any f (a ∷ l) = f a || any f l

-- ---- the entries of a voice
-- a single voice of channel c keeps the entries that have channel c; a blend keeps all
abbrev pub keeps : Kind → PitchEntry → Bool
keeps (Kind.Single c) e = has_channel e c
keeps Kind.Blend e = true

-- an entry put among entries that ascend by pitch, after those of equal pitch
unfoldable pub insert_by_pitch : PitchEntry → List PitchEntry → List PitchEntry
insert_by_pitch e [] = e ∷ []
insert_by_pitch e (x ∷ xs) = cond (lt (f32 e.f0_hz) (f32 x.f0_hz)) (e ∷ x ∷ xs) (x ∷ insert_by_pitch e xs)

-- the entries kept, sorted by pitch, equal pitches in table order; `before` are those already put
unfoldable pub gathered : Kind → List PitchEntry → List PitchEntry → List PitchEntry
gathered k before [] = before
gathered k before (e ∷ es) = gathered k (cond (keeps k e) (insert_by_pitch e before) before) es

abbrev pub voice_entries : Kind → List PitchEntry → List PitchEntry
voice_entries k es = gathered k [] es

-- ---- coefficients: one that an entry lacks counts 0
abbrev pub partial_coeff : PitchEntry → ℕ → ℕ → Float
partial_coeff e c i = cond (ltb i (m_partials e)) (f32 (coefficient_at e c i)) (quotient 0 1)

abbrev pub noise_coeff : PitchEntry → ℕ → ℕ → Float
noise_coeff e c b = cond (ltb b e.j_noise) (f32 (coefficient_at e c (m_partials e + b))) (quotient 0 1)

abbrev pub is_nonzero : Float → Bool
is_nonzero x = ne x (quotient 0 1)

-- ---- counts
-- the largest count of any entry, 0 where there is none
unfoldable pub most : (PitchEntry → ℕ) → List PitchEntry → ℕ
most count [] = 0
most count (e ∷ es) = max (count e) (most count es)

abbrev pub most_channels : List PitchEntry → ℕ
most_channels es = most (λ e. e.k_channels) es

-- the channels that a voice sounds: one of a single voice; of a blend all, at most 4
abbrev pub channel_count : Kind → List PitchEntry → ℕ
channel_count (Kind.Single c) es = 1
channel_count Kind.Blend es = min (most_channels es) max_blended

-- one more than the highest of the first n partials that is not 0 in channel c; 0 where there is none
unfoldable pub partial_reach : PitchEntry → ℕ → ℕ → ℕ
partial_reach e c zero = 0
partial_reach e c (suc n) = cond (is_nonzero (partial_coeff e c n)) (suc n) (partial_reach e c n)

-- the highest reach in the first n channels
unfoldable pub reach_in : PitchEntry → ℕ → ℕ
reach_in e zero = 0
reach_in e (suc n) = max (reach_in e n) (partial_reach e n (m_partials e))

-- the phases that an entry needs: all its partials in a single voice that keeps it; in a blend of n channels, as far as they reach
abbrev pub phases_for : Kind → ℕ → PitchEntry → ℕ
phases_for (Kind.Single c) n e = cond (has_channel e c) (m_partials e) 0
phases_for Kind.Blend n e = reach_in e n

abbrev pub phase_count : Kind → ℕ → List PitchEntry → ℕ
phase_count k n es = most (phases_for k n) es

-- ---- live bands
-- whether band b is not 0 in one of the first n channels of an entry, and in one of the entries
unfoldable pub live_in : PitchEntry → ℕ → ℕ → Bool
live_in e b zero = false
live_in e b (suc n) = is_nonzero (noise_coeff e n b) || live_in e b n

abbrev pub live_among : List PitchEntry → ℕ → ℕ → Bool
live_among es n b = any (λ e. live_in e b n) es

-- all bands of a single voice are live
abbrev pub is_live : Kind → List PitchEntry → ℕ → Bool
is_live (Kind.Single c) es b = true
is_live Kind.Blend es b = live_among es (channel_count Kind.Blend es) b

-- the live ones of the first n bands, ascending
unfoldable pub live_bands : Kind → List PitchEntry → ℕ → List ℕ
live_bands k es zero = []
live_bands k es (suc b) = live_bands k es b ++ cond (is_live k es b) (b ∷ []) []

-- ---- gains: "mainlobe_gain" and "noise_gain" of the metadata, else 1
abbrev pub mainlobe_key : List ℕ
mainlobe_key = 0x6D ∷ 0x61 ∷ 0x69 ∷ 0x6E ∷ 0x6C ∷ 0x6F ∷ 0x62 ∷ 0x65 ∷ 0x5F ∷ 0x67 ∷ 0x61 ∷ 0x69 ∷ 0x6E ∷ []

abbrev pub noise_gain_key : List ℕ
noise_gain_key = 0x6E ∷ 0x6F ∷ 0x69 ∷ 0x73 ∷ 0x65 ∷ 0x5F ∷ 0x67 ∷ 0x61 ∷ 0x69 ∷ 0x6E ∷ []

abbrev pub gain_or1 : Option ℕ → Float
gain_or1 (some v) = f32 v
gain_or1 none = quotient 1 1

abbrev pub gain_of : List ℕ → PitchEntry → Float
gain_of key e = gain_or1 (metadata_value key e.metadata)

-- ---- the fresh voice
-- slot q of an entry holds the single voice's channel, or channel q of a blend of n channels
abbrev pub slot_channel : Kind → ℕ → ℕ → Option ℕ
slot_channel (Kind.Single c) n q = cond (eqb q 0) (some c) none
slot_channel Kind.Blend n q = cond (ltb q n) (some q) none

abbrev pub in_slot : (ℕ → Float) → Option ℕ → Float
in_slot f (some c) = f c
in_slot f none = quotient 0 1

abbrev pub nth : List PitchEntry → ℕ → Option PitchEntry
nth [] i = none
nth (e ∷ es) zero = some e
nth (e ∷ es) (suc i) = nth es i

abbrev pub of_entry : (PitchEntry → Float) → Option PitchEntry → Float
of_entry f (some e) = f e
of_entry f none = quotient 0 1

-- what stands at place x of a flat array of coefficients: an entry after the other, of each four slots, of each w columns
abbrev pub slot_coeff : (PitchEntry → ℕ → ℕ → Float) → ℕ → Kind → ℕ → PitchEntry → ℕ → Float
slot_coeff coeff w k n e x = in_slot (λ c. coeff e c (x % w)) (slot_channel k n (x / w % max_blended))

unfoldable pub coeff_place : (PitchEntry → ℕ → ℕ → Float) → ℕ → Kind → ℕ → List PitchEntry → ℕ → Float
coeff_place coeff w k n vs x = of_entry (λ e. slot_coeff coeff w k n e x) (nth vs (x / (max_blended * w)))

-- entry × 128 + slot × 32 + partial, and entry × 64 + slot × 16 + band
abbrev pub partial_place : Kind → ℕ → List PitchEntry → ℕ → Float
partial_place k n vs x = coeff_place partial_coeff max_partials k n vs x

abbrev pub noise_place : Kind → ℕ → List PitchEntry → ℕ → Float
noise_place k n vs x = coeff_place noise_coeff max_bands k n vs x

abbrev pub kind_number : Kind → ℕ
kind_number (Kind.Single c) = 0
kind_number Kind.Blend = 1

abbrev pub kind_channel : Kind → ℕ
kind_channel (Kind.Single c) = c
kind_channel Kind.Blend = 0

-- the short lists: the entries' pitches, stretches and gains, what `init` gives, and the centres as they were given. Places that are not in
-- use are 0.
unfoldable pub fresh_lists : List PitchEntry → Float → List Float → List Float
fresh_lists vs rate centres =
    padded max_entries (quotient 0 1) (map (λ e. f32 e.f0_hz) vs)
    ++ (padded max_entries (quotient 0 1) (map (λ e. f32 e.stretch) vs)
    ++ (padded max_entries (quotient 0 1) (map (gain_of mainlobe_key) vs)
    ++ (padded max_entries (quotient 0 1) (map (gain_of noise_gain_key) vs)
    ++ (init_floats centres rate ++ padded max_bands (quotient 0 1) centres))))

-- what an accepted making answers: its numbers; of the entries kept, sorted by pitch, the short lists and the coefficients; the first state
unfoldable pub fresh_voice : Kind → List PitchEntry → Float → List Float → Voice
fresh_voice k es rate centres =
    let vs = voice_entries k es in
    let n = channel_count k es in
    let j = band_count k es in
    voice_of
    (record {
      blend = kind_number k;
      channel = kind_channel k;
      count = length vs;
      k = n;
      m = phase_count k n es;
      j = j;
      live_count = length (live_bands k es j);
      sample_rate = rate;
      live = padded max_bands 0 (live_bands k es j);
    })
    (fresh_lists vs rate centres)
    (up_to (partial_place k n vs) partials_places)
    (up_to (noise_place k n vs) noise_places)
    first_state

-- a refused making makes no voice: the blank one, all zero, with no entries
unfoldable pub blank_voice : Voice
blank_voice =
    voice_of
    (record {
      blend = 0;
      channel = 0;
      count = 0;
      k = 0;
      m = 0;
      j = 0;
      live_count = 0;
      sample_rate = quotient 0 1;
      live = replicate max_bands 0;
    })
    (replicate lists_places (quotient 0 1))
    (replicate partials_places (quotient 0 1))
    (replicate noise_places (quotient 0 1))
    (state_of (replicate max_partials (quotient 0 1)) no_memories (record { state = 0 }))

-- ---- questions 8 to 12
-- 8: at most 16 entries, M 32, j 16 in each?
abbrev pub sizes_ok : PitchEntry → Bool
sizes_ok e = leb (m_partials e) max_partials && leb e.j_noise max_bands

unfoldable pub limits_ok : List PitchEntry → Bool
limits_ok es = leb (length es) max_entries && all sizes_ok es

-- 9: pitch, stretch, every coefficient, and both gains where present. Partial frequencies are never looked at.
abbrev pub present_finite : Option ℕ → Bool
present_finite (some v) = finite (f32 v)
present_finite none = true

unfoldable pub values_ok : PitchEntry → Bool
values_ok e =
    pitch_ok (f32 e.f0_hz)
    && (stretch_ok (f32 e.stretch)
    && (all (λ b. finite (f32 b)) e.coefficients
    && (present_finite (metadata_value mainlobe_key e.metadata) && present_finite (metadata_value noise_gain_key e.metadata))))

-- with the first such index; `rest` follows where there is none
unfoldable pub ask_values : ℕ → List PitchEntry → Refusal → Refusal
ask_values i [] rest = rest
ask_values i (e ∷ es) rest = cond (values_ok e) (ask_values (i + 1) es rest) (refusal 9 i 0)

-- 10: single: is the table empty, or has some entry channel c?
abbrev pub channel_found : Kind → List PitchEntry → Bool
channel_found (Kind.Single c) es = eqb (length es) 0 || any (λ e. has_channel e c) es
channel_found Kind.Blend es = true

-- 11 is `rate_ok` of the filters: is the sample rate finite and 8,000 to 192,000?

-- 12: are there exactly j centres, all finite?
abbrev pub centres_ok : ℕ → List Float → Bool
centres_ok j centres = eqb (length centres) j && all finite centres

abbrev pub ask_making : Bool → ℕ → Refusal → Refusal
ask_making true n rest = rest
ask_making false n rest = refusal n 0 0

-- the first question that is answered no; number 0 where all are answered yes
unfoldable pub table_question : Kind → List PitchEntry → Float → List Float → Refusal
table_question k es rate centres =
    ask_making (limits_ok es) 8
    (ask_values 0 es
    (ask_making (channel_found k es) 10
    (ask_making (rate_ok rate) 11
    (ask_making (centres_ok (band_count k es) centres) 12
    (refusal 0 0 0)))))

abbrev pub question_of : Kind → Parsed CoeffTable → Float → List Float → Refusal
question_of k (ok t end) rate centres = table_question k t.entries rate centres
question_of k (refused r) rate centres = r

-- a making's arguments
pub record Making : Type 0 where
  pub kind : Kind
  pub image : List ℕ
  pub rate : Float
  pub centres : List Float

abbrev pub making : Kind → List ℕ → Float → List Float → Making
making k image rate centres = record { kind = k; image = image; rate = rate; centres = centres }

-- questions 1 to 7 of the image, then 8 to 12
unfoldable pub make_question : Making → Refusal
make_question m = question_of m.kind (decode m.image) m.rate m.centres

-- a making's answer: the refusal (number 0 for none) and the voice
pub record Made : Type 0 where
  pub refusal : Refusal
  pub voice : Voice

-- the fresh voice exactly where all questions are answered yes
unfoldable pub make_of : Making → Made
make_of m =
    let q = make_question m in
    let fresh = fresh_voice m.kind (entries_of (decode m.image)) m.rate m.centres in
    record { refusal = q; voice = accepted q.number fresh blank_voice }
