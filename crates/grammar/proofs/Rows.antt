-- Texts that are rows of simpler texts. Assumes nothing.
use Rattle.std.proofs.Common.{◌≡◌, ℕ, Bool, true, false, cond, eqb, List, [], ◌∷◌, ◌++◌, sym, refl, subst, append_assoc, append-nil, eq-eqb}
use Rattle.grammar.specs.Lang.{Lang, Word, word, One, one, ◌⨾◌, seq, ◌∣◌, left, right, Opt, absent, present, Star, none, more, Plus}
use Rattle.grammar.proofs.Walks.{Machine}
use Rattle.grammar.proofs.Leads.{Leads, leads_star}
use Rattle.grammar.proofs.Classes.{Off, clear, off_class}

-- every text of P is a row of texts of R
pub record Made (R P : Lang) : Type 0 where
  pub row : (xs : List ℕ) → P xs → Star R xs

pub star_append : (R : Lang) (xs ys : List ℕ) → Star R xs → Star R ys → Star R (xs ++ ys)
star_append R xs ys none t = t
star_append R xs ys (more {xs = ps} {ys = qs} p q) t = subst (Star R) (sym (append_assoc ps qs ys)) (more p (star_append R qs ys q t))

pub made_seq : {R P Q : Lang} → Made R P → Made R Q → Made R (P ⨾ Q)
made_seq {R} {P} {Q} f g = record { row = at }
  where
    at : (zs : List ℕ) → (P ⨾ Q) zs → Star R zs
    at zs (seq {xs} {ys} p q) = star_append R xs ys (f.row xs p) (g.row ys q)

pub made_or : {R P Q : Lang} → Made R P → Made R Q → Made R (P ∣ Q)
made_or {R} {P} {Q} f g = record { row = at }
  where
    at : (xs : List ℕ) → (P ∣ Q) xs → Star R xs
    at xs (left p) = f.row xs p
    at xs (right q) = g.row xs q

pub made_opt : {R P : Lang} → Made R P → Made R (Opt P)
made_opt {R} {P} f = record { row = at }
  where
    at : (xs : List ℕ) → Opt P xs → Star R xs
    at xs absent = none
    at xs (present p) = f.row xs p

pub made_star : {R P : Lang} → Made R P → Made R (Star P)
made_star {R} {P} f = record { row = at }
  where
    at : (zs : List ℕ) → Star P zs → Star R zs
    at zs none = none
    at zs (more {xs} {ys} p q) = star_append R xs ys (f.row xs p) (at ys q)

pub made_plus : {R P : Lang} → Made R P → Made R (Plus P)
made_plus f = made_seq f (made_star f)

pub made_into : {R P : Lang} → ((xs : List ℕ) → P xs → R xs) → Made R P
made_into {R} f = record { row = λ xs p. subst (Star R) (append-nil xs) (more (f xs p) none) }

-- every code point but the marks is a text of R
abbrev pub Singles : List ℕ → Lang → Type 0
Singles marks R = (c : ℕ) → Off marks c → R (c ∷ [])

pub made_one : {R : Lang} {class : ℕ → Bool} (marks : List ℕ) → Singles marks R → clear class marks ≡ true → Made R (One class)
made_one {R} {class} marks single k = record { row = at }
  where
    at : (xs : List ℕ) → One class xs → Star R xs
    at xs (one c is) = more (single c (off_class class marks c k is)) none

-- no mark stands in the word
abbrev pub free : List ℕ → List ℕ → Bool
free marks [] = true
free marks (c ∷ cs) = cond (clear (eqb c) marks) (free marks cs) false

pub made_word : {R : Lang} {w : List ℕ} (marks : List ℕ) → Singles marks R → free marks w ≡ true → Made R (Word w)
made_word {R} {w} marks single k = record { row = at }
  where
    spelt : (w : List ℕ) → free marks w ≡ true → Star R w
    spelt [] e = none
    spelt (c ∷ cs) e = go (spelt cs) (clear (eqb c) marks) refl e
      where
        go : (free marks cs ≡ true → Star R cs) → (v : Bool) → clear (eqb c) marks ≡ v → cond v (free marks cs) false ≡ true → Star R (c ∷ cs)
        go ih true q r = more (single c (off_class (eqb c) marks c q (eq-eqb c c refl))) (ih r)
        go ih false q r = absurd (cc)

    at : (xs : List ℕ) → Word w xs → Star R xs
    at xs word = spelt w k

pub leads_made : {M : Machine} {s : M.State} {R P : Lang} → Leads M s s R → Made R P → Leads M s s P
leads_made f made = record { walks = λ xs p. (leads_star f).walks xs (made.row xs p) }
