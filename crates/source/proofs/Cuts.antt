-- Laws of cuts. Assumes nothing.
use Rattle.std.proofs.Common.{◌≡◌, ℕ, zero, suc, ◌<◌, ◌≤◌, List, [], ◌∷◌, ◌++◌, map, length, get_or, take, drop, refl, ap, ◌∙◌, append-nil, arith}
use Rattle.source.specs.Cuts.{pieces, ending, before, sizes}
use Rattle.source.specs.Sources.{cut_stream, frames}
use Rattle.source.specs.Stream.{Item, byte, bytes_in, Tail, Stream, seen, passed}
use Rattle.source.specs.declared.cut.Cut.{Cut}
use Rattle.source.specs.declared.fault.Look.TheVariants.{Ready}

-- of the bytes that are shown, before other items
pub front_bytes : (xs : List ℕ) (is : List Item) → take (length xs) (bytes_in (map byte xs ++ is)) ≡ xs
front_bytes [] is = refl
front_bytes (x ∷ xs) is = ap (λ r. x ∷ r) (front_bytes xs is)

pub drop-front : (n : ℕ) (xs : List ℕ) (is : List Item) → n ≤ length xs → drop n (map byte xs ++ is) ≡ map byte (drop n xs) ++ is
drop-front zero xs is h = refl
drop-front (suc n) [] is h = absurd (omega arith)
drop-front (suc n) (x ∷ xs) is h = drop-front n xs is (omega arith)

-- a look at a stream where the bytes xs are shown
pub sees_front : (xs : List ℕ) (is : List Item) (t : Tail) (s : Stream) (ns ms : List ℕ) → 0 < length xs
    → record { items = map byte xs ++ is; tail = t } ≡ s → before (length xs) ns ≡ ms
    → (Ready ≡ seen s) × (record { items = map byte xs ++ is; tail = t } ≡ passed s) × (length xs ≡ get_or ms 0 0)
sees_front [] is t s ns ms some e f = absurd (omega arith)
sees_front (x ∷ xs) is t s ns ms some e f = (ap seen e, ap passed e, ap (λ l. get_or l 0 0) f)

-- behind the entries one frame holds the rest
rests : (es bs : List ℕ) → length es < 1
    → (map byte bs ++ pieces es [] ≡ pieces es bs) × (before (length bs) (sizes es 0) ≡ sizes es (length bs))
rests [] bs none = (append-nil (map byte bs), refl)
rests (e ∷ es) bs none = absurd (omega arith)

-- the items and the sizes say of the cut a what its entries do
abbrev pub Says : Cut → List Item → ℕ → List ℕ → Type 0
Says a is code ns = (record { items = is; tail = ending code } ≡ cut_stream a) × (ns ≡ frames a)

says : (a : Cut) {is js : List Item} {ms ns : List ℕ} (code : ℕ) → (is ≡ js) × (ms ≡ ns) → Says a js code ns → Says a is code ms
says a code e s = (ap (λ l. record { items = l; tail = ending code }) e.0 ∙ s.0, e.1 ∙ s.1)

-- the cut b shows nothing, and its entries and bytes say of a what they do
abbrev pub Left : Cut → Cut → Type 0
Left a b = (length b.shown.now ≡ 0) × Says a (pieces b.entries.now b.rest.now) b.code (sizes b.entries.now (length b.rest.now))

pub left_rests : (a b : Cut) → Left a b → length b.entries.now < 1
    → Says a (map byte b.rest.now ++ pieces b.entries.now []) b.code (before (length b.rest.now) (sizes b.entries.now 0))
left_rests a b l none = says a b.code (rests b.entries.now b.rest.now none) l.1
