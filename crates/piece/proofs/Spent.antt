-- Behind peek_one, read_bang_element is let through: it spends its token.
use Rattle.std.proofs.Common.{◌≡◌, ℕ, zero, suc, ◌^◌, ◌<◌, ◌≤◌, Bool, true, false, ltb, List, [], ◌∷◌, ◌++◌, length, drop, IfErr, Some, None, Ok, Err, Option, Result, refl, ap, ◌∙◌, arith, length-append}
use Rattle.std.proofs.lemmas.Bool.{ltb-true, lt-leb, le-ltb}
use Rattle.source.specs.Stream.{Item, byte, wait, Tail, end, fault, bytes_in}
use Rattle.bang.specs.Bang.{bang}
use Rattle.bang.specs.declared.bang.BangType.{BangType}
use Rattle.model.specs.Cut.{Cut, before, through, nowhere, scan_cut}
use Rattle.model.specs.Gather.{Gathered, next, on_byte, gather}
use Rattle.model.specs.Call.{State, pends, chain, admitted, with_piece, spending}
use Rattle.model.specs.Peek.{Awaited, await}
use Rattle.model.specs.Bang.{kind_of, with_kind, bang_prefix, bangs, bang_unless, bang_from, bang_of, bang_first, bang_named}
use Rattle.model.specs.declared.ending.Pending.TheVariants as pending
use Rattle.errors.specs.declared.Error.{Error}
use Rattle.reader.specs.Token.{OpeningToken}
use Rattle.piece.specs.Next.{Spends, Opened}

module _ {E : Type 0} where
  on_byte-fits : (c : Cut E) (fits : Bool) (size : ℕ) (so_far : List ℕ) (b : ℕ) (is : List Item) (g : Gathered E) → length so_far ≤ size
      → (fits ≡ true → length so_far < size) → (fits ≡ true → length g.bytes ≤ size) → length (on_byte c fits so_far b is g).bytes ≤ size
  on_byte-fits (before zero e) fits size so_far b is g h l r = h
  on_byte-fits (before (suc k) e) true size so_far b is g h l r = r refl
  on_byte-fits (before (suc k) e) false size so_far b is g h l r = h
  on_byte-fits (through zero e) true size so_far b is g h l r = let a = length-append so_far (b ∷ []) in let m = l refl in omega arith
  on_byte-fits (through zero e) false size so_far b is g h l r = h
  on_byte-fits (through (suc k) e) true size so_far b is g h l r = r refl
  on_byte-fits (through (suc k) e) false size so_far b is g h l r = h
  on_byte-fits (nowhere due) true size so_far b is g h l r = r refl
  on_byte-fits (nowhere due) false size so_far b is g h l r = h

  -- no more is gathered than there is room for
  gather-fits : (c : Cut E) (size : ℕ) (so_far : List ℕ) (p : ℕ) (is : List Item) (t : Tail) → length so_far ≤ size → length (gather c size so_far p is t).bytes ≤ size
  gather-fits c size so_far p [] end h = h
  gather-fits c size so_far p [] (fault f) h = h
  gather-fits c size so_far zero (wait ∷ is) t h = h
  gather-fits c size so_far (suc p) (wait ∷ is) t h = gather-fits c size so_far p is t h
  gather-fits c size so_far p (byte b ∷ is) t h =
      on_byte-fits c (ltb (length so_far) size) size so_far b is (gather (next c) size (so_far ++ b ∷ []) p is t) h (ltb-true (length so_far) size)
      (λ y. let a = length-append so_far (b ∷ []) in let l = ltb-true (length so_far) size y in gather-fits (next c) size (so_far ++ b ∷ []) p is t (omega arith))

spends : {A : Type 0} (w : ℕ) (r : Result A Error) → w ≤ 16777216 → IfErr (spending {T = OpeningToken} w r) Spends
spends w (Ok a) h = tt
spends w (Err e) h = omega arith

module _ (token : OpeningToken) (s : State) (buf : List ℕ) (p : ℕ) (b : ℕ) (f : Opened s (length buf) b) where
  let_through : b ≡ 33 → Ok tt ≡ admitted s.position (length buf) pending.Bang s.opening 2
  let_through e =
      let below = lt-leb (2 ^ 63) s.position f.below in
      let short = le-ltb 16777216 (length buf) f.short in
      let there = ap (pends pending.Bang) (f.pending ∙ ap (λ x. Some x) e) in
      let enough = le-ltb (length buf) 2 f.enough in
      rw (below, short, there, enough)

  bang_spent : (r : Result (Unit {0}) Error) → Ok tt ≡ r → IfErr (bang_unless token s buf r p).answer Spends
  bang_spent (Err e) h = cc
  bang_spent (Ok u) h = at_first (await p s.stream.items s.stream.tail)
    where
      named : (is : List Item) (q : ℕ) (r : Result BangType Error) → IfErr (bang_named token s buf r is q).answer Spends
      named is q (Err e) = omega arith
      named is q (Ok k) =
          let short = f.short in
          let enough = f.enough in
          let c = scan_cut (bang k) (bytes_in is) in
          let g = gather c (length buf) bang_prefix q is s.stream.tail in
          let fits = gather-fits c (length buf) bang_prefix q is s.stream.tail (omega arith) in
          spends (length g.bytes) (with_kind (kind_of k) (chain g.ending (with_piece g.bytes))) (omega arith)

      first : (is : List Item) (q : ℕ) (r : Result (Option ℕ) Error) → IfErr (bang_first token s buf r is q).answer Spends
      first is q (Ok (Some b)) = let a = await q (drop 1 is) s.stream.tail in named a.left a.patience (chain a.first bang_of)
      first is q (Ok None) = omega arith
      first is q (Err e) = omega arith

      at_first : (a : Awaited) → IfErr (bang_from token s buf a).answer Spends
      at_first a = first a.left a.patience a.first

  pub bang_spends : b ≡ 33 → IfErr (bangs token s buf p).answer Spends
  bang_spends e = bang_spent (admitted s.position (length buf) pending.Bang s.opening 2) (let_through e)
