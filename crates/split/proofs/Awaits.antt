-- A byte is awaited as a piece of no bytes; peek_one and read_bang_element by it. Assumes nothing.
use Rattle.std.proofs.Common.{◌≡◌, ℕ, zero, suc, ◌+◌, ◌-◌, ◌≤◌, Bool, true, false, cond, eqb, List, [], ◌∷◌, ◌++◌, length, drop, Some, None, Ok, Err, Option, Result, sym, refl, ap, ◌∙◌, subst, arith}
use Rattle.source.specs.Stream.{Item, byte, wait, Tail, end, fault, bytes_in, waits_in}
use Rattle.bang.specs.Bang.{bang, bang-prefix}
use Rattle.model.specs.Cut.{Cut, scan_cut}
use Rattle.model.specs.Gather.{Gathered, gather}
use Rattle.model.specs.Call.{State, left_with, chain}
use Rattle.model.specs.Peek.{await, peek_none, peek_behind, peek_after, peek_first, peek_from, peek_unless}
use Rattle.model.specs.Bang.{bang_prefix, kind_of, bang_of, bang_stuck, bang_piece, bang_named, bang_after, bang_from, bang_unless}
use Rattle.model.specs.declared.ending.Pending.TheVariants as pending
use Rattle.errors.specs.declared.Error.{Error}
use Rattle.errors.specs.declared.Error.TheVariants.{FirstByte}
use Rattle.split.specs.Piece.{Inside, Only}
use Rattle.split.specs.Reads.{OnePiece}
use Rattle.split.specs.Awaits.{first_cut, First, opens, AtOpening, bang_reading, BehindBang, PeeksFirst, BangsOnePiece}
use Rattle.split.proofs.Pieces.{gather_is_piece, piece-gathered}
use Rattle.split.proofs.Cuts.{scan_lawful}
use Rattle.split.proofs.Calls.{admitted_long, one_piece}

first_inside : (bs : List ℕ) → Inside (first_cut bs) (length bs)
first_inside [] = tt
first_inside (b ∷ bs) = omega arith

waits_append : (xs ys : List Item) → waits_in (xs ++ ys) ≡ waits_in xs + waits_in ys
waits_append [] ys = omega arith
waits_append (byte b ∷ xs) ys = waits_append xs ys
waits_append (wait ∷ xs) ys = omega (arith, waits_append xs ys)

module _ (p : ℕ) (is : List Item) (t : Tail) where
  abbrev gathers_first : Gathered (Option ℕ)
  gathers_first = gather (first_cut (bytes_in is)) 0 [] p is t

  abbrev one_first : Only (First p is t)
  one_first = record {
    it = gathers_first;
    is = gather_is_piece (Option ℕ) (first_cut (bytes_in is)) 0 [] p is t (first_inside (bytes_in is)) (omega arith);
    only = piece-gathered (first_cut (bytes_in is)) 0 [] p is t;
  }

-- what is awaited is that piece
await-first : (p : ℕ) (is : List Item) (t : Tail) → (await p is t).first ≡ (gathers_first p is t).ending
await-first p [] end = refl
await-first p [] (fault f) = refl
await-first zero (wait ∷ is) t = refl
await-first (suc p) (wait ∷ is) t = await-first p is t
await-first p (byte b ∷ is) t = refl

await_left : (p : ℕ) (is : List Item) (t : Tail) → (await p is t).left ≡ (gathers_first p is t).left
await_left p [] end = refl
await_left p [] (fault f) = refl
await_left zero (wait ∷ is) t = refl
await_left (suc p) (wait ∷ is) t = await_left p is t
await_left p (byte b ∷ is) t = refl

-- what comes after an Ok, and is one, comes after one
ok_before : {A B : Type 0} (f : A → Result B Error) (r : Result A Error) {b : B} → chain r f ≡ Ok b → (a : A) × (r ≡ Ok a)
ok_before f (Ok a) q = (a, refl)
ok_before f (Err e) q = cc

-- the patience spent is the waits that are gone, unless it is worn out
await_patience : (p : ℕ) (is : List Item) (t : Tail) (x : Option ℕ) → (await p is t).first ≡ Ok x
    → (await p is t).patience + waits_in is ≡ p + waits_in (await p is t).left
await_patience p [] end x q = refl
await_patience p [] (fault f) x q = cc
await_patience zero (wait ∷ is) t x q = cc
await_patience (suc p) (wait ∷ is) t x q = omega (arith, await_patience p is t x q)
await_patience p (byte b ∷ is) t x q = refl

-- what gathers from there gathers from the start
await_bytes : (p : ℕ) (is : List Item) (t : Tail) (x : Option ℕ) → (await p is t).first ≡ Ok x → bytes_in (await p is t).left ≡ bytes_in is
await_bytes p [] end x q = refl
await_bytes p [] (fault f) x q = cc
await_bytes zero (wait ∷ is) t x q = cc
await_bytes (suc p) (wait ∷ is) t x q = await_bytes p is t x q
await_bytes p (byte b ∷ is) t x q = refl

await-gather : {E : Type 0} (c : Cut E) (size : ℕ) (so_far : List ℕ) (p : ℕ) (is : List Item) (t : Tail) (x : Option ℕ) → (await p is t).first ≡ Ok x
    → gather c size so_far (await p is t).patience (await p is t).left t ≡ gather c size so_far p is t
await-gather c size so_far p [] end x q = refl
await-gather c size so_far p [] (fault f) x q = cc
await-gather c size so_far zero (wait ∷ is) t x q = cc
await-gather c size so_far (suc p) (wait ∷ is) t x q = await-gather c size so_far p is t x q
await-gather c size so_far p (byte b ∷ is) t x q = refl

module _ {T : Type 0} (token : T) (s : State) where
  -- no `<` comes first, or one does
  peek_stays : (r : Result (Option ℕ) Error) (is : List Item) (q : ℕ) (e : Error) → opens r ≡ Err e → peek_first token s r is q ≡ peek_none token s e is
  peek_stays (Ok (Some b)) is q e h = by (eqb b 60) h
    where
      by : (y : Bool) → cond {A = Result (Unit {0}) Error} y (Ok tt) (Err FirstByte) ≡ Err e → cond y (peek_after token s (await q (drop 1 is) s.stream.tail)) (peek_none token s FirstByte is) ≡ peek_none token s e is
      by true k = cc
      by false k = ap (λ x. peek_none token s x is) cc
  peek_stays (Ok None) is q e h = ap (λ x. peek_none token s x is) cc
  peek_stays (Err x) is q e h = ap (λ x. peek_none token s x is) cc

  peek_goes : (r : Result (Option ℕ) Error) (is : List Item) (q : ℕ) → opens r ≡ Ok tt
      → (peek_first token s r is q ≡ peek_after token s (await q (drop 1 is) s.stream.tail)) × ((x : Option ℕ) × (r ≡ Ok x))
  peek_goes (Ok (Some b)) is q h = (by (eqb b 60) h, (Some b, refl))
    where
      by : (y : Bool) → cond {A = Result (Unit {0}) Error} y (Ok tt) (Err FirstByte) ≡ Ok tt
          → cond y (peek_after token s (await q (drop 1 is) s.stream.tail)) (peek_none token s FirstByte is) ≡ peek_after token s (await q (drop 1 is) s.stream.tail)
      by true k = refl
      by false k = cc
  peek_goes (Ok None) is q h = cc
  peek_goes (Err x) is q h = cc

  at_opening : (p : ℕ) → AtOpening token s p (peek_from token s (await p s.stream.items s.stream.tail))
  at_opening p =
      let is = s.stream.items in
      let t = s.stream.tail in
      let a = await p is t in
      let g = one_first p is t in record {
        first = g;
        none = λ e h. peek_stays a.first a.left a.patience e (ap opens (await-first p is t) ∙ h) ∙ ap (peek_none token s e) (await_left p is t);
        some = λ h.
            let k = peek_goes a.first a.left a.patience (ap opens (await-first p is t) ∙ h) in
            let left = drop 1 g.it.left in
            let q = p - waits_in g.is.met in
            let spent : a.patience ≡ q =
            omega (arith, await_patience p is t k.1.0 k.1.1, ap waits_in (await_left p is t), ap waits_in g.is.split, waits_append g.is.met g.it.left) in
            record {
              first = one_first q left t;
              gave = k.0
                  ∙ ap (λ x. peek_after token s (await x (drop 1 a.left) t)) spent
                  ∙ ap (λ x. peek_after token s (await q (drop 1 x) t)) (await_left p is t)
                  ∙ ap (λ r. peek_behind token s r (await q left t).left) (await-first q left t)
                  ∙ ap (peek_behind token s (gathers_first q left t).ending) (await_left q left t);
            };
      }

module _ {T : Type 0} (token : T) (s : State) (buf : List ℕ) where
  behind-bang : (p : ℕ) (is : List Item) → 2 ≤ length buf
      → BehindBang token (left_with s is s.position s.opening) buf p (bang_after token s buf (await p is s.stream.tail))
  behind-bang p is room =
      let t = s.stream.tail in
      let a = await p is t in
      let named = ap (λ r. chain r bang_of) (await-first p is t) in
      let behind = left_with s is s.position s.opening in record {
        first = one_first p is t;
        none = λ e h.
            ap (λ r. bang_named token s buf r a.left a.patience) (named ∙ h)
            ∙ ap (bang_stuck token s buf bang_prefix 1 e) (await_left p is t);
        some = λ k h.
            let x = ok_before bang_of a.first (named ∙ h) in
            let same =
            ap (λ r. bang_named token s buf r a.left a.patience) (named ∙ h)
            ∙ ap (λ bs. bang_piece token s buf (kind_of k) (gather (scan_cut (bang k) bs) (length buf) bang_prefix a.patience a.left t)) (await_bytes p is t x.0 x.1)
            ∙ ap (bang_piece token s buf (kind_of k)) (await-gather (scan_cut (bang k) (bytes_in is)) (length buf) bang_prefix p is t x.0 x.1) in
            subst (OnePiece (bang_reading token k) behind buf p) (sym same)
            (one_piece (bang_reading token k) behind buf p (scan_lawful (bang k) (bang-prefix k)) room _ refl);
      }

pub peeks-first : {T : Type 0} (token : T) → PeeksFirst token
peeks-first token s p = record {
  refused = λ e q. ap (λ a. peek_unless token s a p) q;
  read = λ q. subst (AtOpening token s p) (sym (ap (λ a. peek_unless token s a p) q)) (at_opening token s p);
}

pub bangs_one_piece : {T : Type 0} (token : T) → BangsOnePiece token
bangs_one_piece token s buf p = record {
  refused = λ e q. ap (λ a. bang_unless token s buf a p) q;
  read = λ q b is h.
      subst (BehindBang token (left_with s is s.position s.opening) buf p)
      (sym (ap (λ a. bang_unless token s buf a p) q ∙ ap (λ js. bang_from token s buf (await p js s.stream.tail)) h))
      (behind-bang token s buf p is (admitted_long (length buf) 2 s.position pending.Bang s.opening q));
}
