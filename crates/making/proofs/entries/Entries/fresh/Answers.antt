-- `fresh` meets its contract.
use mathlib.Core.Path.{◌≡◌, refl, sym, ap, ◌∙◌}
use mathlib.Core.List.{List}
use Prim.Native.Nat.{ℕ, ◌≤◌}
use native.Mathlib.Omega.{arith}
use lib.ListN.{length, replicate, length-map}
use lib.Ieee.{Float}
use Rattle.table.specs.Table.{PitchEntry}
use Rattle.table.specs.View.{entry_at}
use Rattle.float.specs.F32.{quotient}
use Rattle.voice.specs.Bands.{init_lists}
use Rattle.voice.specs.Lists.{padded, up_to}
use Rattle.making.specs.Making.{voice_entries, fresh_voice, phase_count, live_bands, partial_place, noise_place}
use Rattle.making.specs.inner.Live.{live_of}
use Rattle.making.specs.inner.Columns.{columns_of, lists_from}
use Rattle.making.specs.inner.Views.{viewed, entries_in}
use Rattle.making.specs.declared.live.Live.{Live}
use Rattle.making.specs.declared.sounding.Sounding.{Sounding}
use Rattle.making.specs.declared.fill.Columns.{Columns}
use Rattle.making.proofs.ListLaws.{lists-init}
use Rattle.making.proofs.VoiceFields.{setting-eq, voice-eq}
use Rattle.making.proofs.entries.Entries.fresh.Goals as goal

pub returns : goal.returns
unfolding fresh_voice
returns c =
    let kind = c.args.kind in
    let image = c.args.self.now.image.now in
    let rate = c.args.sample_rate in
    let centres = c.args.centres.now in
    let es = entries_in c.args.self.now in
    let vs = voice_entries kind es in
    let sounds = c.sounding-sounding.ensures in
    let jj = c.requires.centres_all in
    let live = c.live_bands-live.ensures ∙ ap (λ (s : Sounding). live_of (live_bands s.kind es (length centres))) sounds in
    let views = c.as_slice-views.result.now in
    let kept : viewed image views ≡ vs = ap (viewed image) c.as_slice-views.ensures.value ∙ c.gather-sorted.ensures in
    let count : length views ≡ length vs = sym (length-map views (entry_at image)) ∙ ap length kept in
    let few : length vs ≤ 16 = omega (arith, count, c.as_slice-views.ensures.fits, ap length c.as_slice-views.ensures.value) in
    voice-eq
    (setting-eq c.numbers_of-blend.ensures.number c.numbers_of-blend.ensures.channel count (ap (λ (s : Sounding). s.channels) sounds) (c.phase_count-m.ensures ∙ ap (λ (s : Sounding). phase_count s.kind s.channels es) sounds) jj
    (ap (λ (x : Live). x.count) live ∙ ap (λ (n : ℕ). length (live_bands kind es n)) jj)
    refl
    (ap (λ (x : Live). x.bands) live ∙ ap (λ (n : ℕ). padded 16 0 (live_bands kind es n)) jj))
    (c.init.ensures
    ∙ ap (λ (l : List Float). init_lists l (length centres) rate)
    (c.lists_of-lists.ensures
    ∙ ap (λ (x : Columns). lists_from x c.centres_list.result) (c.columns.ensures ∙ ap columns_of kept)
    ∙ ap (lists_from (columns_of vs)) c.centres_list.ensures)
    ∙ lists-init vs few centres (length centres) refl c.requires.centres_few (replicate 96 (quotient 0 1)) rate refl)
    (c.slots.ensures ∙ ap (λ (l : List PitchEntry). up_to (partial_place c.sounding-sounding.result.kind c.sounding-sounding.result.channels l) 2048) kept ∙ ap (λ (s : Sounding). up_to (partial_place s.kind s.channels vs) 2048) sounds)
    (c.slots-2.ensures ∙ ap (λ (l : List PitchEntry). up_to (noise_place c.sounding-sounding.result.kind c.sounding-sounding.result.channels l) 1024) kept ∙ ap (λ (s : Sounding). up_to (noise_place s.kind s.channels vs) 1024) sounds)
    c.first_state.ensures
