-- What a number given back says of the tests behind it. Assumes nothing.
use Rattle.std.specs.Prelude.{◌≡◌, refl, not, List, [], ℕ, length}
use Rattle.std.proofs.Common.{sym, ◌∙◌, ltb-false, le-ltb}
use Rattle.std.proofs.lemmas.Bool.{not-false}
use Rattle.rules.specs.Store.{draft_right}
use Rattle.rules.specs.Answers.{◌when◌, first_of, build_number, admit_number}
use Rattle.laws.specs.Refusals.{none-first, none-given, graph_number, build-number, admit-same, admit-zero}
use Rattle.laws.specs.Same.{same-equal, equal-same}
use Rattle.demands.specs.Numbers.{Sound, Buildable}

-- ---- admitting
pub admitted-sound : (s : List ℕ) → admit_number s ≡ 0 → Sound s
admitted-sound s q =
    let all = admit-zero s q in
    record { right = all.0; graph = all.1; built = same-equal _ _ all.2 }

pub sound-admitted : (s : List ℕ) → Sound s → admit_number s ≡ 0
unfolding ◌when◌
sound-admitted s x = admit-same s x.right x.graph ∙ rw (equal-same _ _ x.built)

-- ---- building
-- the building number looks at the length of the room alone
pub number-alike : (d a b : List ℕ) → length a ≡ length b → build_number d a ≡ build_number d b
unfolding build_number
number-alike d a b e = rw e

pub answered-buildable : (d room : List ℕ) → build_number d room ≡ 0 → Buildable d room
answered-buildable d room q =
    let one = none-given 1 (not (draft_right d)) _ refl (sym (build-number d room) ∙ q) in
    let graph = none-first (graph_number d) _ one.1 in
    record { right = not-false _ one.0; graph = graph.0; fits = ltb-false _ _ (none-given 10 _ [] refl graph.1).0 }

pub buildable-answered : (d room : List ℕ) → Buildable d room → build_number d room ≡ 0
unfolding first_of ◌when◌
buildable-answered d room x = build-number d room ∙ rw (x.right, x.graph, le-ltb _ _ x.fits)
