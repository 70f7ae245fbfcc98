-- What the texts of a grammar do to a machine of bytes. Assumes nothing.
use Rattle.std.proofs.Common.{◌≡◌, ℕ, true, List, refl, ap, ◌∙◌}
use lib.Utf8.{encodes}
use Rattle.std.proofs.lemmas.Str.{encodes-append}
use Rattle.parser.specs.Bytes.{goes}
use Rattle.grammar.specs.Lang.{Lang, Word, word, ◌⨾◌, seq, ◌∣◌, left, right, Star, none, more}
use Rattle.grammar.proofs.Walks.{Machine, walk, walk-append, ascii, encodes_self}

-- every text of P leads from s to t
pub record Leads (M : Machine) (s t : M.State) (P : Lang) : Type 0 where
  pub walks : (xs : List ℕ) → P xs → walk M s (encodes xs) ≡ goes t

pub leads_word : {M : Machine} {s t : M.State} (w : List ℕ) → ascii w ≡ true → walk M s w ≡ goes t → Leads M s t (Word w)
leads_word {M} {s} {t} w a e = record { walks = at }
  where
    at : (xs : List ℕ) → Word w xs → walk M s (encodes xs) ≡ goes t
    at xs word = ap (walk M s) (encodes_self w a) ∙ e

pub leads_seq : {M : Machine} {s t u : M.State} {P Q : Lang} → Leads M s t P → Leads M t u Q → Leads M s u (P ⨾ Q)
leads_seq {M} {s} {t} {u} {P} {Q} f g = record { walks = at }
  where
    at : (zs : List ℕ) → (P ⨾ Q) zs → walk M s (encodes zs) ≡ goes u
    at zs (seq {xs} {ys} p q) = ap (walk M s) (encodes-append xs ys) ∙ walk-append M s t (encodes xs) (encodes ys) (f.walks xs p) ∙ g.walks ys q

pub leads_or : {M : Machine} {s t : M.State} {P Q : Lang} → Leads M s t P → Leads M s t Q → Leads M s t (P ∣ Q)
leads_or {M} {s} {t} {P} {Q} f g = record { walks = at }
  where
    at : (xs : List ℕ) → (P ∣ Q) xs → walk M s (encodes xs) ≡ goes t
    at xs (left p) = f.walks xs p
    at xs (right q) = g.walks xs q

pub leads_star : {M : Machine} {s : M.State} {P : Lang} → Leads M s s P → Leads M s s (Star P)
leads_star {M} {s} {P} f = record { walks = at }
  where
    at : (zs : List ℕ) → Star P zs → walk M s (encodes zs) ≡ goes s
    at zs none = refl
    at zs (more {xs} {ys} p q) = ap (walk M s) (encodes-append xs ys) ∙ walk-append M s s (encodes xs) (encodes ys) (f.walks xs p) ∙ at ys q
