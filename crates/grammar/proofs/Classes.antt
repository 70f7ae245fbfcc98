-- Code points that a state passes by. Assumes nothing.
use Rattle.std.proofs.Common.{◌≡◌, ℕ, ◌≤◌, Bool, true, false, cond, eqb, leb, List, [], ◌∷◌, sym, refl, ap, ◌∙◌, append-nil, arith, eqb-true, le-leb}
use lib.Utf8.{encode, encodes}
use Rattle.parser.specs.Bytes.{goes}
use Rattle.grammar.specs.Lang.{One, one}
use Rattle.grammar.proofs.Walks.{Machine, walk, walk-char}
use Rattle.grammar.proofs.Leads.{Leads}

-- b is none of the marks
abbrev pub Off : List ℕ → ℕ → Type 0
Off [] b = Unit {0}
Off (k ∷ ks) b = (eqb b k ≡ false) × Off ks b

-- no mark is of the class
abbrev pub clear : (ℕ → Bool) → List ℕ → Bool
clear class [] = true
clear class (k ∷ ks) = cond (class k) false (clear class ks)

pub off_class : (class : ℕ → Bool) (marks : List ℕ) (c : ℕ) → clear class marks ≡ true → class c ≡ true → Off marks c
off_class class [] c k is = tt
off_class class (m ∷ ms) c k is = go (off_class class ms c) (class m) refl k
  where
    apart : class m ≡ false → (v : Bool) → eqb c m ≡ v → eqb c m ≡ false
    apart out true e = let z : true ≡ false = sym is ∙ ap class (eqb-true c m e) ∙ out in let y : ◌≡◌ {A = ℕ} 0 1 = cc in absurd (omega arith)
    apart out false e = e

    go : (clear class ms ≡ true → class c ≡ true → Off ms c) → (v : Bool) → class m ≡ v → cond v false (clear class ms) ≡ true → (eqb c m ≡ false) × Off ms c
    go ih true e r = let y : ◌≡◌ {A = ℕ} 0 1 = cc in absurd (omega arith)
    go ih false e r = (apart e (eqb c m) refl, ih r is)

-- every byte but the marks leads from s to t
abbrev pub Past : (M : Machine) → List ℕ → M.State → M.State → Type 0
Past M marks s t = (b : ℕ) → Off marks b → M.step s b ≡ goes t

pub leads_past : {M : Machine} {s t : M.State} {class : ℕ → Bool} (marks : List ℕ) → clear (leb 128) marks ≡ true → Past M marks s t → Past M marks t t → clear class marks ≡ true → Leads M s t (One class)
leads_past {M} {s} {t} {class} marks low past stays k = record { walks = at }
  where
    high : (b : ℕ) → 128 ≤ b → Off marks b
    high b le = off_class (leb 128) marks b low (le-leb 128 b le)

    at : (xs : List ℕ) → One class xs → walk M s (encodes xs) ≡ goes t
    at xs (one c is) = ap (walk M s) (append-nil (encode c)) ∙ walk-char M s t c (past c (off_class class marks c k is)) (λ _ b le. (past b (high b le), stays b (high b le)))
