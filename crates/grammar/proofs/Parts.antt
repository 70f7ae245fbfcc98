-- What the productions are made of: code points other than markup, and quoted literals. Assumes nothing.
use Rattle.std.proofs.Common.{◌≡◌, ℕ, Bool, true, eqb, leb, List, [], ◌∷◌, refl}
use Rattle.parser.specs.Bytes.{goes}
use Rattle.grammar.specs.Lang.{Lang, Word, word, One, one, ◌⨾◌, seq, ◌∣◌, left, right, Star}
use Rattle.grammar.specs.Xml.{S, Name, Reference, AttValue}
use Rattle.grammar.proofs.Walks.{Machine, walk_byte, ascii}
use Rattle.grammar.proofs.Leads.{Leads, leads_word, leads_seq, leads_star}
use Rattle.grammar.proofs.Classes.{Off, clear, Past, leads_past}
use Rattle.grammar.proofs.Rows.{Made, made_seq, made_or, made_star, made_plus, made_one, made_word, made_into, Singles}

-- `<`, `>`, `'`, `"`, `[` and `]`
abbrev pub markup : List ℕ
markup = 60 ∷ 62 ∷ 39 ∷ 34 ∷ 91 ∷ 93 ∷ []

abbrev pub off : List ℕ → ℕ → Bool
off marks c = clear (eqb c) marks

off_marks : (marks : List ℕ) (c : ℕ) → Off marks c → off marks c ≡ true
off_marks [] c o = refl
off_marks (m ∷ ms) c o = rw o.0 (off_marks ms c o.1)

-- a literal that a quote opens and the next such quote closes
abbrev pub Literal : ℕ → Lang
Literal quote = Word (quote ∷ []) ⨾ Star (One (off (quote ∷ []))) ⨾ Word (quote ∷ [])

abbrev pub Part : Lang
Part = One (off markup) ∣ Literal 34 ∣ Literal 39

pub plain : Singles markup (One (off markup))
plain c o = one c (off_marks markup c o)

pub part : Singles markup Part
part c o = left (plain c o)

pub double : Singles markup (One (off (34 ∷ [])))
double c o = one c (off_marks (34 ∷ []) c (o.1.1.1.0, tt))

pub single : Singles markup (One (off (39 ∷ [])))
single c o = one c (off_marks (39 ∷ []) c (o.1.1.0, tt))

pub space : {R : Lang} → Singles markup R → Made R S
space each = made_plus (made_one markup each refl)

pub name : {R : Lang} → Singles markup R → Made R Name
name each = made_seq (made_one markup each refl) (made_star (made_one markup each refl))

pub reference : {R : Lang} → Singles markup R → Made R Reference
reference each =
    made_or (made_seq (made_word markup each refl) (made_seq (name each) (made_word markup each refl)))
    (made_or (made_seq (made_word markup each refl) (made_seq (made_plus (made_one markup each refl)) (made_word markup each refl)))
    (made_seq (made_word markup each refl) (made_seq (made_plus (made_one markup each refl)) (made_word markup each refl))))

literal : (quote : ℕ) {P : Lang} → Made (One (off (quote ∷ []))) P → (xs : List ℕ) → (Word (quote ∷ []) ⨾ P ⨾ Word (quote ∷ [])) xs → Literal quote xs
literal quote f xs (seq word (seq {xs = ys} p word)) = seq word (seq (f.row ys p) word)

pub quoted : {P Q : Lang} → Made (One (off (34 ∷ []))) P → Made (One (off (39 ∷ []))) Q → Made Part (Word (34 ∷ []) ⨾ P ⨾ Word (34 ∷ []) ∣ Word (39 ∷ []) ⨾ Q ⨾ Word (39 ∷ []))
quoted f g = made_or (made_into (λ xs p. right (left (literal 34 f xs p)))) (made_into (λ xs p. right (right (literal 39 g xs p))))

-- in a literal, a class without its quote
pub unquoted : {class : ℕ → Bool} (quote : ℕ) → clear class (quote ∷ []) ≡ true → Made (One (off (quote ∷ []))) (One class)
unquoted quote = made_one (quote ∷ []) (λ c o. one c (off_marks (quote ∷ []) c o))

pub att_value : Made Part AttValue
att_value = quoted (made_star (made_or (unquoted 34 refl) (reference double))) (made_star (made_or (unquoted 39 refl) (reference single)))

pub leads_literal : {M : Machine} {s t : M.State} (quote : ℕ) → ascii (quote ∷ []) ≡ true → clear (leb 128) (quote ∷ []) ≡ true → clear (off (quote ∷ [])) (quote ∷ []) ≡ true → M.step s quote ≡ goes t → Past M (quote ∷ []) t t → M.step t quote ≡ goes s → Leads M s s (Literal quote)
leads_literal {M} {s} {t} quote a low other opens stays closes =
    leads_seq (leads_word (quote ∷ []) a (walk_byte M s t quote opens))
    (leads_seq (leads_star (leads_past (quote ∷ []) low stays stays other)) (leads_word (quote ∷ []) a (walk_byte M t s quote closes)))
