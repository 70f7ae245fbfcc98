-- Texts that end a construct at their last byte. Assumes nothing.
use Rattle.std.proofs.Common.{◌≡◌, ℕ, ◌-◌, true, List, [], ◌∷◌, ◌++◌, length, drop, sym, refl, ap, ◌∙◌, subst, append_assoc, arith, length-drop}
use lib.Utf8.{encodes}
use Rattle.std.proofs.lemmas.List.{drop_at, length_push}
use Rattle.std.proofs.lemmas.Str.{encodes-append}
use Rattle.parser.specs.Scan.{stop}
use Rattle.parser.specs.Bytes.{halt, goes, machine}
use Rattle.parser.specs.Machines.{along_halt}
use Rattle.grammar.specs.Lang.{Lang, Word, word, ◌⨾◌, seq, Opt, absent, present}
use Rattle.grammar.specs.Ends.{Ends}
use Rattle.grammar.proofs.Walks.{Machine, walk, walk-append, walk_along, ascii, encodes_self}
use Rattle.grammar.proofs.Leads.{Leads}

-- the bytes lead from s to a halt at the last of them
pub record Last (M : Machine) (s : M.State) (bs : List ℕ) : Type 0 where
  pub front : List ℕ
  pub last : ℕ
  pub state : M.State
  pub whole : bs ≡ front ++ last ∷ []
  pub walks : walk M s front ≡ goes state
  pub halts : M.step state last ≡ halt

last_after : (M : Machine) (s t : M.State) (xs ys : List ℕ) → walk M s xs ≡ goes t → Last M t ys → Last M s (xs ++ ys)
last_after M s t xs ys e end = record {
  front = xs ++ end.front;
  last = end.last;
  state = end.state;
  whole = ap (λ l. xs ++ l) end.whole ∙ sym (append_assoc xs end.front (end.last ∷ []));
  walks = walk-append M s t xs end.front e ∙ end.walks;
  halts = end.halts;
}

last_stop : (M : Machine) (s : M.State) (bs : List ℕ) → Last M s bs → (rest : List ℕ) → machine M.step M.due s (bs ++ rest) ≡ stop (length bs - 1)
last_stop M s bs end rest =
    ap (λ l. machine M.step M.due s (l ++ rest)) end.whole
    ∙ ap (machine M.step M.due s) (append_assoc end.front (end.last ∷ []) rest)
    ∙ along_halt M.step M.due s end.state end.front end.last rest (walk_along M s end.state end.front end.walks) end.halts
    ∙ ap stop (omega (arith, ap length end.whole ∙ length_push end.front end.last))

pub record Finishes (M : Machine) (s : M.State) (P : Lang) : Type 0 where
  pub ends : (xs : List ℕ) → P xs → Last M s (encodes xs)

pub finishes_word : {M : Machine} {s : M.State} (t : M.State) (w : List ℕ) (b : ℕ) → ascii (w ++ b ∷ []) ≡ true → walk M s w ≡ goes t → M.step t b ≡ halt → Finishes M s (Word (w ++ b ∷ []))
finishes_word {M} {s} t w b a e h = record { ends = at }
  where
    at : (xs : List ℕ) → Word (w ++ b ∷ []) xs → Last M s (encodes xs)
    at xs word = record { front = w; last = b; state = t; whole = encodes_self (w ++ b ∷ []) a; walks = e; halts = h }

pub finishes_seq : {M : Machine} {s t : M.State} {P Q : Lang} → Leads M s t P → Finishes M t Q → Finishes M s (P ⨾ Q)
finishes_seq {M} {s} {t} {P} {Q} f g = record { ends = at }
  where
    at : (zs : List ℕ) → (P ⨾ Q) zs → Last M s (encodes zs)
    at zs (seq {xs} {ys} p q) = subst (Last M s) (sym (encodes-append xs ys)) (last_after M s t (encodes xs) (encodes ys) (f.walks xs p) (g.ends ys q))

pub finishes_opt : {M : Machine} {s t : M.State} {P Q : Lang} → Leads M s t P → Finishes M s Q → Finishes M t Q → Finishes M s (Opt P ⨾ Q)
finishes_opt {M} {s} {t} {P} {Q} f g h = record { ends = at }
  where
    at : (zs : List ℕ) → (Opt P ⨾ Q) zs → Last M s (encodes zs)
    at zs (seq {ys = ys} absent q) = g.ends ys q
    at zs (seq {xs} {ys} (present p) q) = (finishes_seq f h).ends (xs ++ ys) (seq p q)

-- every text of P leads from s to some state
pub record Reaches (M : Machine) (s : M.State) (P : Lang) : Type 0 where
  pub state : (xs : List ℕ) → P xs → (t : M.State) × (walk M s (encodes xs) ≡ goes t)

pub reaches_seq : {M : Machine} {s t : M.State} {P Q : Lang} → Leads M s t P → Reaches M t Q → Reaches M s (P ⨾ Q)
reaches_seq {M} {s} {t} {P} {Q} f g = record { state = at }
  where
    at : (zs : List ℕ) → (P ⨾ Q) zs → (u : M.State) × (walk M s (encodes zs) ≡ goes u)
    at zs (seq {xs} {ys} p q) = ((g.state ys q).0, ap (walk M s) (encodes-append xs ys) ∙ walk-append M s t (encodes xs) (encodes ys) (f.walks xs p) ∙ (g.state ys q).1)

pub reaches_opt : {M : Machine} {s : M.State} {P : Lang} → Reaches M s P → Reaches M s (Opt P)
reaches_opt {M} {s} {P} f = record { state = at }
  where
    at : (xs : List ℕ) → Opt P xs → (t : M.State) × (walk M s (encodes xs) ≡ goes t)
    at xs absent = (s, refl)
    at xs (present p) = f.state xs p

pub finishes_any : {M : Machine} {s : M.State} {P Q : Lang} → Reaches M s P → ((t : M.State) → Finishes M t Q) → Finishes M s (P ⨾ Q)
finishes_any {M} {s} {P} {Q} f g = record { ends = at }
  where
    at : (zs : List ℕ) → (P ⨾ Q) zs → Last M s (encodes zs)
    at zs (seq {xs} {ys} p q) =
        let t = f.state xs p in
        subst (Last M s) (sym (encodes-append xs ys)) (last_after M s t.0 (encodes xs) (encodes ys) t.1 ((g t.0).ends ys q))

-- P begins with a word of which the first part is not fed
pub ends_opened : {M : Machine} {Q : Lang} (s t : M.State) (w v : List ℕ) → ascii (w ++ v) ≡ true → walk M s v ≡ goes t → Finishes M t Q → Ends (machine M.step M.due s) (length w) (Word (w ++ v) ⨾ Q)
ends_opened {M} s t w v a e g zs (seq {ys = ys} word q) rest =
    let apart : v ++ encodes ys ≡ drop (length w) (encodes ((w ++ v) ++ ys)) =
    sym (ap (drop (length w)) (encodes-append (w ++ v) ys ∙ ap (λ l. l ++ encodes ys) (encodes_self (w ++ v) a) ∙ append_assoc w v (encodes ys)) ∙ drop_at w (v ++ encodes ys) (length w) refl) in
    last_stop M s (drop (length w) (encodes ((w ++ v) ++ ys))) (subst (Last M s) apart (last_after M s t v (encodes ys) e (g.ends ys q))) rest
    ∙ ap (λ k. stop (k - 1)) (length-drop (length w) (encodes ((w ++ v) ++ ys)))
