-- What is gathered and awaited with room and patience enough. Assumes nothing.
use Rattle.std.proofs.Common.{◌≡◌, ℕ, zero, suc, ◌+◌, ◌<◌, ◌≤◌, true, ltb, List, [], ◌∷◌, ◌++◌, length, take, drop, Some, Ok, Err, Result, sym, refl, ap, ◌∙◌, subst, append_assoc, append-nil, arith, length-append, lt-ltb}
use Rattle.source.specs.Stream.{Item, byte, wait, Tail, end, fault, bytes_in, waits_in}
use Rattle.model.specs.Cut.{Cut, before, through, nowhere}
use Rattle.model.specs.Gather.{Gathered, next, on_byte, gather}
use Rattle.model.specs.Peek.{Awaited, await}
use Rattle.errors.specs.declared.Error.{Error}
use Rattle.errors.specs.declared.Error.TheVariants.{Io}
use Rattle.quick.specs.QuickXml.{first}

module _ {E : Type 0} where
  -- how many bytes a cut takes
  abbrev pub cut_length : Cut E → List ℕ → ℕ
  cut_length (before k e) bs = k
  cut_length (through k e) bs = suc k
  cut_length (nowhere due) bs = length bs

  abbrev pub Inside : Cut E → List ℕ → Type 0
  Inside (before k e) bs = k < length bs
  Inside (through k e) bs = k < length bs
  Inside (nowhere due) bs = Unit {0}

  abbrev pub cut_ending : Cut E → List ℕ → Tail → Result E Error
  cut_ending (before k e) content t = Ok e
  cut_ending (through k e) content t = Ok e
  cut_ending (nowhere due) content end = Ok (due content)
  cut_ending (nowhere due) content (fault f) = Err (Io f)

  -- the bytes behind `so_far` through the cut
  abbrev pub piece : Cut E → List ℕ → List ℕ → List ℕ
  piece c so_far bs = so_far ++ take (cut_length c bs) bs

  pub record CutOff (c : Cut E) (so_far bs : List ℕ) (t : Tail) (g : Gathered E) : Type 0 where
    pub bytes : g.bytes ≡ piece c so_far bs
    pub left : bytes_in g.left ≡ drop (cut_length c bs) bs
    pub ending : g.ending ≡ cut_ending c (piece c so_far bs) t

  -- one byte more in front
  more : (so_far : List ℕ) (b : ℕ) (bs : List ℕ) (t : Tail) (g : Gathered E) (c d : Cut E) (n : ℕ) → cut_length d bs ≡ n → cut_length c (b ∷ bs) ≡ suc n
      → ((content : List ℕ) → cut_ending d content t ≡ cut_ending c content t) → CutOff d (so_far ++ b ∷ []) bs t g → CutOff c so_far (b ∷ bs) t g
  more so_far b bs t g c d n dn cn same h =
      let joins : piece d (so_far ++ b ∷ []) bs ≡ piece c so_far (b ∷ bs) =
      append_assoc so_far (b ∷ []) (take (cut_length d bs) bs) ∙ ap (λ k. so_far ++ (b ∷ take k bs)) dn ∙ ap (λ k. so_far ++ take k (b ∷ bs)) (sym cn) in
      record {
        bytes = h.bytes ∙ joins;
        left = h.left ∙ ap (λ k. drop k bs) dn ∙ ap (λ k. drop k (b ∷ bs)) (sym cn);
        ending = h.ending ∙ same (piece d (so_far ++ b ∷ []) bs) ∙ ap (λ w. cut_ending c w t) joins;
      }

  module _ (so_far : List ℕ) (b : ℕ) (is : List Item) (t : Tail) (size : ℕ) (g : Gathered E) where
    fits : (c : Cut E) → length so_far < size → CutOff c so_far (b ∷ bytes_in is) t (on_byte c true so_far b is g)
        → CutOff c so_far (b ∷ bytes_in is) t (on_byte c (ltb (length so_far) size) so_far b is g)
    fits c lt h = subst (λ v. CutOff c so_far (b ∷ bytes_in is) t (on_byte c v so_far b is g)) (sym (lt-ltb (length so_far) size lt)) h

    on_byte_cuts : (c : Cut E) → Inside c (b ∷ bytes_in is) → length so_far + cut_length c (b ∷ bytes_in is) ≤ size
        → (Inside (next c) (bytes_in is) → length (so_far ++ b ∷ []) + cut_length (next c) (bytes_in is) ≤ size → CutOff (next c) (so_far ++ b ∷ []) (bytes_in is) t g)
        → CutOff c so_far (b ∷ bytes_in is) t (on_byte c (ltb (length so_far) size) so_far b is g)
    on_byte_cuts (before zero e) h room rest = record { bytes = sym (append-nil so_far); left = refl; ending = refl }
    on_byte_cuts (before (suc k) e) h room rest =
        fits (before (suc k) e) (omega arith) (more so_far b (bytes_in is) t g (before (suc k) e) (before k e) k refl refl (λ _. refl) (rest (omega arith) (simp length-append (omega arith))))
    on_byte_cuts (through zero e) h room rest = fits (through zero e) (omega arith) (record { bytes = refl; left = refl; ending = refl })
    on_byte_cuts (through (suc k) e) h room rest =
        fits (through (suc k) e) (omega arith) (more so_far b (bytes_in is) t g (through (suc k) e) (through k e) (suc k) refl refl (λ _. refl) (rest (omega arith) (simp length-append (omega arith))))
    on_byte_cuts (nowhere due) h room rest =
        fits (nowhere due) (omega arith) (more so_far b (bytes_in is) t g (nowhere due) (nowhere due) (length (bytes_in is)) refl refl (λ _. refl) (rest tt (simp length-append (omega arith))))

  gather_cuts : (c : Cut E) (size : ℕ) (so_far : List ℕ) (p : ℕ) (is : List Item) (t : Tail)
      → Inside c (bytes_in is) → waits_in is ≤ p → length so_far + cut_length c (bytes_in is) ≤ size → CutOff c so_far (bytes_in is) t (gather c size so_far p is t)
  gather_cuts c size so_far p (byte b ∷ is) t h patient room =
      on_byte_cuts so_far b is t size (gather (next c) size (so_far ++ b ∷ []) p is t) c h room (λ i r. gather_cuts (next c) size (so_far ++ b ∷ []) p is t i patient r)
  gather_cuts c size so_far zero (wait ∷ is) t h patient room = absurd (omega arith)
  gather_cuts c size so_far (suc p) (wait ∷ is) t h patient room = gather_cuts c size so_far p is t h (omega arith) room
  gather_cuts (before k e) size so_far p [] t h patient room = absurd (omega arith)
  gather_cuts (through k e) size so_far p [] t h patient room = absurd (omega arith)
  gather_cuts (nowhere due) size so_far p [] end h patient room =
      record { bytes = sym (append-nil so_far); left = refl; ending = ap (λ w. Ok (due w)) (sym (append-nil so_far)) }
  gather_cuts (nowhere due) size so_far p [] (fault f) h patient room = record { bytes = sym (append-nil so_far); left = refl; ending = refl }

  pub gather_cuts_in : (c : Cut E) (size : ℕ) (so_far : List ℕ) (p : ℕ) (is : List Item) (bs : List ℕ) (t : Tail) → bytes_in is ≡ bs
      → Inside c bs → waits_in is ≤ p → length so_far + cut_length c bs ≤ size → CutOff c so_far bs t (gather c size so_far p is t)
  gather_cuts_in c size so_far p is bs t same =
      subst (λ l. Inside c l → waits_in is ≤ p → length so_far + cut_length c l ≤ size → CutOff c so_far l t (gather c size so_far p is t)) same (gather_cuts c size so_far p is t)

-- what stands first, and what stands behind it
pub record Stood (bs : List ℕ) (t : Tail) (a : Awaited) : Type 0 where
  pub first_is : a.first ≡ first bs t
  pub left : bytes_in a.left ≡ bs
  pub patient : waits_in a.left ≤ a.patience
  pub behind : bytes_in (drop 1 a.left) ≡ drop 1 bs
  pub still_patient : waits_in (drop 1 a.left) ≤ a.patience

await_stands : (p : ℕ) (is : List Item) (t : Tail) → waits_in is ≤ p → Stood (bytes_in is) t (await p is t)
await_stands p [] end h = record { first_is = refl; left = refl; patient = h; behind = refl; still_patient = h }
await_stands p [] (fault f) h = record { first_is = refl; left = refl; patient = h; behind = refl; still_patient = h }
await_stands zero (wait ∷ is) t h = absurd (omega arith)
await_stands (suc p) (wait ∷ is) t h = await_stands p is t (omega arith)
await_stands p (byte b ∷ is) t h = record { first_is = refl; left = refl; patient = h; behind = refl; still_patient = h }

-- a byte stands first, and is dropped
pub await-behind : (p : ℕ) (is : List Item) (t : Tail) (b : ℕ) (bs : List ℕ) → bytes_in is ≡ b ∷ bs → waits_in is ≤ p
    → ((await p is t).first ≡ Ok (Some b)) × Stood bs t (await (await p is t).patience (drop 1 (await p is t).left) t)
await-behind p is t b bs same patient =
    let a = await p is t in
    let stood = await_stands p is t patient in (
      stood.first_is ∙ ap (λ l. first l t) same,
      subst (λ l. Stood l t (await a.patience (drop 1 a.left) t)) (stood.behind ∙ ap (drop 1) same) (await_stands a.patience (drop 1 a.left) t stood.still_patient),
    )
