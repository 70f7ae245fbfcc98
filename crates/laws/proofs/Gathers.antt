-- How gathering and awaiting go, case by case. Assumes nothing.
use Rattle.std.proofs.Common.{◌≡◌, ℕ, zero, suc, ◌≤◌, Bool, true, false, ltb, List, [], ◌∷◌, ◌++◌, map, length, Some, None, Ok, Err, refl, ◌∙◌, arith, length-append}
use lib.Seq.{append_snoc}
use Rattle.source.specs.declared.fault.Fault.{Fault}
use Rattle.source.specs.Stream.{Item, byte, wait, Tail, end, fault, bytes_in}
use Rattle.model.specs.Cut.{Cut, before, through, nowhere, at_end}
use Rattle.model.specs.Gather.{Gathered, gathered, next, on_byte, gather}
use Rattle.model.specs.Peek.{Awaited, awaited, await}
use Rattle.errors.specs.declared.Error.TheVariants.{Io, Patience, BufferFull}

module _ {E : Type 0} where
  -- a byte comes first in two gatherings with one cut: it ends the piece, or does not fit, or the rests follow
  pub on_byte-both : (R : Gathered E → Gathered E → Type 0) (so_far : List ℕ) (b : ℕ) (is js : List Item) (g h : Gathered E) (c : Cut E) (fits : Bool)
      → R (gathered so_far (byte b ∷ is) (Ok (at_end c []))) (gathered so_far (byte b ∷ js) (Ok (at_end c [])))
      → R (gathered (so_far ++ b ∷ []) is (Ok (at_end c []))) (gathered (so_far ++ b ∷ []) js (Ok (at_end c [])))
      → R (gathered so_far (byte b ∷ is) (Err BufferFull)) (gathered so_far (byte b ∷ js) (Err BufferFull))
      → R g h → R (on_byte c fits so_far b is g) (on_byte c fits so_far b js h)
  on_byte-both R so_far b is js g h (before zero e) fits left kept full rest = left
  on_byte-both R so_far b is js g h (before (suc k) e) true left kept full rest = rest
  on_byte-both R so_far b is js g h (before (suc k) e) false left kept full rest = full
  on_byte-both R so_far b is js g h (through zero e) true left kept full rest = kept
  on_byte-both R so_far b is js g h (through zero e) false left kept full rest = full
  on_byte-both R so_far b is js g h (through (suc k) e) true left kept full rest = rest
  on_byte-both R so_far b is js g h (through (suc k) e) false left kept full rest = full
  on_byte-both R so_far b is js g h (nowhere due) true left kept full rest = rest
  on_byte-both R so_far b is js g h (nowhere due) false left kept full rest = full

  -- what ends the piece at the end of the source is no other behind one byte more
  pub next_end : (c : Cut E) (content : List ℕ) → at_end (next c) content ≡ at_end c content
  next_end (before zero e) content = refl
  next_end (before (suc k) e) content = refl
  next_end (through zero e) content = refl
  next_end (through (suc k) e) content = refl
  next_end (nowhere due) content = refl

  -- what is gathered, then what is left
  abbrev pub held : Gathered E → List ℕ
  held g = g.bytes ++ bytes_in g.left

  pub gather_keeps : (c : Cut E) (size : ℕ) (so_far : List ℕ) (p : ℕ) (is : List Item) (t : Tail) → held (gather c size so_far p is t) ≡ so_far ++ bytes_in is
  gather_keeps c size so_far p [] end = refl
  gather_keeps c size so_far p [] (fault f) = refl
  gather_keeps c size so_far zero (wait ∷ is) t = refl
  gather_keeps c size so_far (suc p) (wait ∷ is) t = gather_keeps c size so_far p is t
  gather_keeps c size so_far p (byte b ∷ is) t =
      let g = gather (next c) size (so_far ++ b ∷ []) p is t in
      on_byte-both (λ x _. held x ≡ so_far ++ (b ∷ bytes_in is)) so_far b is is g g c (ltb (length so_far) size) refl (append_snoc so_far b (bytes_in is)) refl
      (gather_keeps (next c) size (so_far ++ b ∷ []) p is t ∙ append_snoc so_far b (bytes_in is))

  pub gather_grows : (c : Cut E) (size : ℕ) (so_far : List ℕ) (p : ℕ) (is : List Item) (t : Tail) → length so_far ≤ length (gather c size so_far p is t).bytes
  gather_grows c size so_far p [] end = omega arith
  gather_grows c size so_far p [] (fault f) = omega arith
  gather_grows c size so_far zero (wait ∷ is) t = omega arith
  gather_grows c size so_far (suc p) (wait ∷ is) t = gather_grows c size so_far p is t
  gather_grows c size so_far p (byte b ∷ is) t =
      let kept = so_far ++ b ∷ [] in
      let g = gather (next c) size kept p is t in
      on_byte-both (λ x _. length so_far ≤ length x.bytes) so_far b is is g g c (ltb (length so_far) size) (omega arith) (omega (arith, length-append so_far (b ∷ []))) (omega arith)
      (omega (arith, length-append so_far (b ∷ []), gather_grows (next c) size kept p is t))

-- the items without the waits
abbrev pub bytes_only : List Item → List Item
bytes_only is = map byte (bytes_in is)

-- what awaiting comes to, beside awaiting the same items without the waits
pub await-both : (R : Awaited → Awaited → Type 0) (p : ℕ) (is : List Item) (t : Tail)
    → ((q : ℕ) → [] ≡ bytes_in is → R (awaited (Ok None) [] q) (awaited (Ok None) [] 0))
    → ((f : Fault) (q : ℕ) → [] ≡ bytes_in is → R (awaited (Err (Io f)) [] q) (awaited (Err (Io f)) [] 0))
    → ((js : List Item) (a : Awaited) → bytes_in js ≡ bytes_in is → R (awaited (Err Patience) js 0) a)
    → ((b : ℕ) (js : List Item) (q : ℕ) → b ∷ bytes_in js ≡ bytes_in is → R (awaited (Ok (Some b)) (byte b ∷ js) q) (awaited (Ok (Some b)) (byte b ∷ bytes_only js) 0))
    → R (await p is t) (await 0 (bytes_only is) t)
await-both R p [] end none fails worn seen = none p refl
await-both R p [] (fault f) none fails worn seen = fails f p refl
await-both R zero (wait ∷ is) t none fails worn seen = worn is (await 0 (bytes_only is) t) refl
await-both R (suc p) (wait ∷ is) t none fails worn seen = await-both R p is t none fails worn seen
await-both R p (byte b ∷ is) t none fails worn seen = seen b is p refl
