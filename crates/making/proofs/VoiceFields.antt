-- A voice by its fields: two are equal where their fields are. Assumes nothing.
use Prim.Native.Nat.{ℕ}
use mathlib.Core.Path.{◌≡◌, refl}
use mathlib.Core.List.{List}
use lib.Ieee.{Float}
use Rattle.voice.specs.Voice.{voice_of}
use Rattle.voice.specs.declared.voice.Setting.{Setting}
use Rattle.voice.specs.declared.voice.State.{State}

abbrev pub setting_of : ℕ → ℕ → ℕ → ℕ → ℕ → ℕ → ℕ → Float → List ℕ → Setting
setting_of a b c d e f g h i = record { blend = a; channel = b; count = c; k = d; m = e; j = f; live_count = g; sample_rate = h; live = i }

pub setting-eq : {a a' b b' c c' d d' e e' f f' g g' : ℕ} {h h' : Float} {i i' : List ℕ}
    → a ≡ a' → b ≡ b' → c ≡ c' → d ≡ d' → e ≡ e' → f ≡ f' → g ≡ g' → h ≡ h' → i ≡ i' → setting_of a b c d e f g h i ≡ setting_of a' b' c' d' e' f' g' h' i'
setting-eq e1 e2 e3 e4 e5 e6 e7 e8 e9 = rw (e1, e2, e3, e4, e5, e6, e7, e8, e9) refl

pub voice-eq : {s s' : Setting} {l l' p p' n n' : List Float} {t t' : State} → s ≡ s' → l ≡ l' → p ≡ p' → n ≡ n' → t ≡ t' → voice_of s l p n t ≡ voice_of s' l' p' n' t'
voice-eq e1 e2 e3 e4 e5 = rw (e1, e2, e3, e4, e5) refl
