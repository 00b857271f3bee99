-- A call's outcome, once its results stand in 8 words. Assumes nothing.
use Prim.Native.Nat.{ℕ, ◌/◌, ◌%◌, ◌<◌}
use native.Mathlib.Omega.{arith}
use mathlib.Core.Path.{◌≡◌, sym, ap, ◌∙◌}
use mathlib.Core.List.{List, [], ◌∷◌, ◌++◌}
use lib.ListN.{take, replicate}
use Rattle.rules.specs.Answers.{Outcome}
use Rattle.std.specs.Prelude.{Result, Ok, Err}
use Rattle.std.specs.Result.{ResultUnwrapsOrElse, result_unwrap_or}
use Rattle.rules.specs.Refused.{number_of, figure_of}
use Rattle.rules.specs.declared.Refusal.{Refusal}
use Rattle.list_found.specs.Reading.{results_of, list_told}
use Rattle.list_found.specs.declared.Listed.{Listed}
use Rattle.bahrufaz.specs.Boundary.{in_eight, wide, in_eight_wide, left}

-- the figure that stands for an answer or for none
figure-is : {P : ℕ → Type 0} → ((x : ℕ) → P x → x ≡ 0) → (r : Result ℕ Refusal) (n : ℕ) → ResultUnwrapsOrElse r P n → figure_of r ≡ n
figure-is none (Ok x) n e = sym e
figure-is none (Err f) n e = sym (none n e)

-- the results that stand for an answer of listing or for none
results-are : (r : Result Listed Refusal) (l : Listed) → l ≡ result_unwrap_or r (record { matches = 0; nodes = 0; edges = 0; bound = 0 }) → results_of r ≡ l.matches ∷ l.nodes ∷ l.edges ∷ l.bound ∷ []
results-are (Ok x) l e = rw e
results-are (Err f) l e = rw e

-- what building or planning gives back makes its outcome
pub figure-told : {P : ℕ → Type 0} → ((x : ℕ) → P x → x ≡ 0) → {o : Outcome} (r : Result ℕ Refusal) (number n : ℕ) (room : List ℕ) → number ≡ number_of r → ResultUnwrapsOrElse r P n
    → left (number_of r) (figure_of r ∷ []) room [] ≡ o → left number (n ∷ []) room [] ≡ o
figure-told none r number n room e u told = rw (e, ← figure-is none r n u) told

-- what listing gives back makes its outcome
pub listing-told : {o : Outcome} (r : Result Listed Refusal) (number : ℕ) (l : Listed) (room work : List ℕ) → number ≡ number_of r
    → l ≡ result_unwrap_or r (record { matches = 0; nodes = 0; edges = 0; bound = 0 }) → list_told r room work ≡ o → left number (l.matches ∷ l.nodes ∷ l.edges ∷ l.bound ∷ []) room work ≡ o
listing-told r number l room work e u told = rw (e, ← results-are r l u) told

-- results that are those named with zeros after them make the outcome that is asked
pub gives : {o : Outcome} (number : ℕ) (named results room work : List ℕ) → left number named room work ≡ o → results ≡ take 8 (named ++ replicate 8 0) → left number results room work ≡ in_eight o
unfolding in_eight
gives number named results room work told given = ap (λ rs. left number rs room work) given ∙ ap in_eight told

-- the same for listing, whose first result stands in two words
pub gives-wide : {o : Outcome} (number m n e t low high : ℕ) (results room work : List ℕ) → left number (m ∷ n ∷ e ∷ t ∷ []) room work ≡ o → low ≡ m % 4294967296 → high ≡ m / 4294967296 → results ≡ low ∷ n ∷ e ∷ t ∷ 0 ∷ 0 ∷ 0 ∷ high ∷ [] → left number results room work ≡ in_eight_wide o
unfolding in_eight_wide wide
gives-wide number m n e t low high results room work told lower upper given =
    rw (given, lower, upper, ← told)

-- below 2^32 matches the results of listing are those named with zeros after them, as any other call's
pub wide-narrow : (number m n e t : ℕ) (room work : List ℕ) → m < 4294967296 → in_eight_wide (left number (m ∷ n ∷ e ∷ t ∷ []) room work) ≡ in_eight (left number (m ∷ n ∷ e ∷ t ∷ []) room work)
unfolding in_eight_wide wide in_eight
wide-narrow number m n e t room work small =
    let lower : m % 4294967296 ≡ m = omega arith in
    let upper : m / 4294967296 ≡ 0 = omega arith in
    rw (lower, upper)
