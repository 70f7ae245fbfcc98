-- From a gathering to the reader and the buffer that it leaves.
use Rattle.std.proofs.Common.{◌≡◌, ℕ, ◌+◌, ◌-◌, ◌≤◌, List, [], ◌∷◌, ◌++◌, length, take, drop, set, Some, None, Ok, Err, Option, Result, MatchResult, IsErrAnd, sym, subst, refl, ap, ◌∙◌, arith, length-append, length-drop}
use Rattle.std.proofs.lemmas.List.{take_at, drop_at, drop-drop}
use Rattle.source.specs.Stream.{Item, Stream, bytes_in, bytes_of}
use Rattle.model.specs.Cut.{Cut, scan_cut}
use Rattle.model.specs.Gather.{Gathered, gather}
use Rattle.model.specs.Call.{State, state, left_with, Outcome, outcome, over, admitted, refusal, chain, with_piece, spending}
use Rattle.errors.specs.declared.Error.{Error}
use Rattle.bang.specs.Bang.{bang}
use Rattle.bang.specs.declared.bang.BangType.{BangType}
use Rattle.parser.specs.declared.errors.SyntaxError.{SyntaxError}
use Rattle.model.specs.Peek.{Awaited, await}
use Rattle.model.specs.Bang.{kind_of, bang_of, with_kind, bang_prefix, opening_prefix, bang_stuck, bang_piece, bang_named, bang_after, bang_first, bang_from, bang_unless, bangs}
use Rattle.model.specs.declared.answer.BangKind.{BangKind}
use Rattle.model.specs.declared.answer.Refused.{Refused}
use Rattle.model.specs.declared.answer.Refused.TheVariants.{Spent}
use Rattle.model.specs.declared.ending.Pending.TheVariants.{Bang}
use Rattle.gather.specs.Named.{named}
use Rattle.reader.specs.Peeked.{peeked_taken_by, peeked_taken, left_behind_by, left_behind}
use Rattle.laws.proofs.Gathers.{gather_grows}
use Rattle.reader.specs.State.{gathers, Leaves}

-- a prefix that was written before the gathering
module _ {E : Type 0} (s : State) (buf pre : List ℕ) (cut : List ℕ → Cut E) (p : ℕ) (short : length pre ≤ length buf) where
  over-length : length (over pre buf) ≡ length buf
  over-length = let a = length-append pre (drop (length pre) buf) in let d = length-drop (length pre) buf in omega arith

  over-drop : (n : ℕ) → length pre ≤ n → drop n (over pre buf) ≡ drop n buf
  over-drop n h =
      let k : length pre + (n - length pre) ≡ n = omega arith in
      ap (λ i. drop i (over pre buf)) (sym k) ∙ sym (drop-drop (n - length pre) (length pre) (over pre buf))
      ∙ ap (drop (n - length pre)) (drop_at pre (drop (length pre) buf) (length pre) refl)
      ∙ drop-drop (n - length pre) (length pre) buf ∙ ap (λ i. drop i buf) k

  pub prefixed : {w : ℕ} {e : Result E Error} {s' : State} {buf' : List ℕ}
      → Leaves s (over pre buf) (gathers s (over pre buf) cut (take (length pre) (over pre buf)) p) w e s' buf'
      → Leaves s buf (gathers s buf cut pre p) w e s' buf'
  prefixed {w} {e} {s'} {buf'} all =
      let g = gathers s buf cut pre p in
      let same : gathers s (over pre buf) cut (take (length pre) (over pre buf)) p ≡ g =
      ap (λ xs. gathers s (over pre buf) cut xs p) (take_at pre (drop (length pre) buf) (length pre) refl)
      ∙ ap (λ n. gather (cut (bytes_of s.stream)) n pre p s.stream.items s.stream.tail) over-length in
      let l = subst (λ x. Leaves s (over pre buf) x w e s' buf') same all in
      record {
        front = l.front;
        ending = l.ending;
        left = l.left;
        buffer = l.buffer ∙ ap (λ xs. g.bytes ++ xs)
            (over-drop (length g.bytes) (gather_grows (cut (bytes_of s.stream)) (length buf) pre p s.stream.items s.stream.tail));
      }

-- what is written before the source is touched
pub opening_set : (buf : List ℕ) → 1 ≤ length buf → set buf 0 60 ≡ over opening_prefix buf
opening_set [] h = absurd (omega arith)
opening_set (b ∷ bs) h = refl

pub bang-set : (buf : List ℕ) → 2 ≤ length buf → set (set buf 0 60) 1 33 ≡ over bang_prefix buf
bang-set [] h = absurd (omega arith)
bang-set (a ∷ []) h = absurd (omega arith)
bang-set (a ∷ b ∷ bs) h = refl

-- an answer that is made of what a gathering leaves
pub answered : {E A : Type 0} {s : State} {buf : List ℕ} {g : Gathered E} {w : ℕ} {e : Result E Error} {s' : State} {buf' : List ℕ} → Leaves s buf g w e s' buf'
    → (answer : List ℕ → Result E Error → A) (a : A) → a ≡ answer (take w buf') e
    → outcome a s' buf' ≡ outcome (answer g.bytes g.ending) (left_with s g.left (s.position + length g.bytes) None) (over g.bytes buf)
answered {s} {buf} {g} {e = e} {s' = s'} {buf' = buf'} l answer a h =
    let same = h ∙ ap (λ bs. answer bs e) l.front ∙ ap (answer g.bytes) l.ending in
    ap (λ x. outcome x s' buf') same ∙ ap (λ x. outcome (answer g.bytes g.ending) x buf') l.left
    ∙ ap (outcome (answer g.bytes g.ending) (left_with s g.left (s.position + length g.bytes) None)) l.buffer

-- the error that `map_err` makes of another
pub map_err-exit : {A E D : Type 0} (Q : E → D → Type 0) (n : Result A E) (m : Result A D)
    → MatchResult n (λ x. m ≡ Ok x) (λ e. IsErrAnd m (Q e)) → (d : D) → m ≡ Err d → (e : E) × (Err e ≡ n) × Q e d
map_err-exit Q (Ok x) m h d w = absurd (cc (sym h, w))
map_err-exit Q (Err e) (Ok x) h d w = absurd h
map_err-exit Q (Err e) (Err b) h d w = let same : b ≡ d = cc in (e, refl, subst (Q e) same h)

-- what read_bang_element answers to a gathering
abbrev pub bang_answered : {T : Type 0} → BangKind → List ℕ → Result (Result (Unit {0}) SyntaxError) Error → Result (BangKind × ℕ) (Refused T)
bang_answered k bs e = spending (length bs) (with_kind k (chain e (with_piece bs)))

-- read_bang_element
module _ {T : Type 0} (token : T) (s : State) (buf : List ℕ) (p : ℕ) (free : Ok tt ≡ admitted s.position (length buf) Bang s.opening 2) where
  -- once the byte that was peeked is taken
  abbrev on_taken : Result ℕ Error → List Item → Outcome (Result (BangKind × ℕ) (Refused T))
  on_taken (Ok q) is = bang_after token s buf (await q is s.stream.tail)
  on_taken (Err e) is = bang_stuck token s buf opening_prefix 0 e is

  taken-from : (a : Awaited) → bang_from token s buf a ≡ on_taken (peeked_taken a) (left_behind a)
  taken-from a = go a.first
    where
      go : (r : Result (Option ℕ) Error) → bang_first token s buf r a.left a.patience ≡ on_taken (peeked_taken_by r a.patience) (left_behind_by r a.left)
      go (Ok (Some b)) = refl
      go (Ok None) = refl
      go (Err e) = refl

  -- once the kind is known
  abbrev on_named : Result (BangType × ℕ) Error → List Item → Outcome (Result (BangKind × ℕ) (Refused T))
  on_named (Ok (b, q)) is = bang_piece token s buf (kind_of b) (gather (scan_cut (bang b) (bytes_in is)) (length buf) bang_prefix q is s.stream.tail)
  on_named (Err e) is = bang_stuck token s buf bang_prefix 1 e is

  named-from : (a : Awaited) → bang_after token s buf a ≡ on_named (named a) a.left
  named-from a = go (chain a.first bang_of)
    where
      go : (r : Result BangType Error) → bang_named token s buf r a.left a.patience ≡ on_named (chain r (λ b. Ok (b, a.patience))) a.left
      go (Ok b) = refl
      go (Err e) = refl

  bangs-from : bangs token s buf p ≡ on_taken (peeked_taken (await p s.stream.items s.stream.tail)) (left_behind (await p s.stream.items s.stream.tail))
  bangs-from = sym (ap (λ a. bang_unless token s buf a p) free) ∙ taken-from (await p s.stream.items s.stream.tail)

  -- the byte that was peeked is not there
  pub bang_none : (e : Error) → Err e ≡ peeked_taken (await p s.stream.items s.stream.tail) → (r : Refused T) → r ≡ Spent (refusal e 1 0)
      → (s' : State) → s' ≡ left_with s (left_behind (await p s.stream.items s.stream.tail)) s.position None
      → (buf' : List ℕ) → buf' ≡ over opening_prefix buf → outcome (Err r) s' buf' ≡ bangs token s buf p
  bang_none e h r same s' there buf' written =
      ap (λ x. outcome (Err x) s' buf') same ∙ ap (λ x. outcome (Err (Spent (refusal e 1 0))) x buf') there
      ∙ ap (outcome (Err (Spent (refusal e 1 0))) (left_with s (left_behind (await p s.stream.items s.stream.tail)) s.position None)) written
      ∙ ap (λ n. on_taken n (left_behind (await p s.stream.items s.stream.tail))) h
      ∙ sym bangs-from

  -- the source once the byte that was peeked is taken, and once the kind is known
  module _ (q : ℕ) (taken : Ok q ≡ peeked_taken (await p s.stream.items s.stream.tail)) (one two : Stream)
      (first : one ≡ record { items = left_behind (await p s.stream.items s.stream.tail); tail = s.stream.tail })
      (second : two.items ≡ (await q one.items one.tail).left) (behind : two.tail ≡ one.tail) where
    middle : two ≡ record { items = (await q one.items one.tail).left; tail = s.stream.tail }
    middle = ap (λ is. record { items = is; tail = two.tail }) second
        ∙ ap (λ t. record { items = (await q one.items one.tail).left; tail = t }) (behind ∙ ap (λ x. x.tail) first)

    from_named : (n : Result (BangType × ℕ) Error) → n ≡ named (await q one.items one.tail)
        → on_named n (await q one.items one.tail).left ≡ bangs token s buf p
    from_named n h =
        ap (λ m. on_named m (await q one.items one.tail).left) h
        ∙ sym (named-from (await q one.items one.tail))
        ∙ ap (λ x. bang_after token s buf (await q x.items x.tail)) first
        ∙ ap (λ r. on_taken r (left_behind (await p s.stream.items s.stream.tail))) taken
        ∙ sym bangs-from

    pub bang-refused : (e : Error) → Err e ≡ named (await q one.items one.tail) → (r : Refused T) → r ≡ Spent (refusal e 2 1)
        → (s' : State) → s' ≡ state two s.position None
        → (buf' : List ℕ) → buf' ≡ over bang_prefix buf → outcome (Err r) s' buf' ≡ bangs token s buf p
    bang-refused e h r same s' there buf' written =
        ap (λ x. outcome (Err x) s' buf') same ∙ ap (λ x. outcome (Err (Spent (refusal e 2 1))) x buf') there
        ∙ ap (λ x. outcome (Err (Spent (refusal e 2 1))) (state x s.position None) buf') middle
        ∙ ap (outcome (Err (Spent (refusal e 2 1))) (left_with s (await q one.items one.tail).left s.position None)) written
        ∙ from_named (Err e) h

    pub bang_read : (b : BangType) (n : ℕ) → Ok (b, n) ≡ named (await q one.items one.tail)
        → {w : ℕ} {e : Result (Result (Unit {0}) SyntaxError) Error} {s' : State} {buf' : List ℕ}
        → (let at = state two s.position None in Leaves at buf (gathers at buf (scan_cut (bang b)) bang_prefix n) w e s' buf')
        → (r : Result (BangKind × ℕ) (Refused T)) → r ≡ bang_answered (kind_of b) (take w buf') e
        → outcome r s' buf' ≡ bangs token s buf p
    bang_read b n h all r same =
        answered all (bang_answered (kind_of b)) r same
        ∙ ap (λ x. bang_piece token (state x s.position None) buf (kind_of b) (gathers (state x s.position None) buf (scan_cut (bang b)) bang_prefix n)) middle
        ∙ from_named (Ok (b, n)) h
