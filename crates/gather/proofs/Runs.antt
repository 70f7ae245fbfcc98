-- What a run adds to a gathering.
use Rattle.std.proofs.Common.{◌≡◌, ℕ, zero, suc, ◌+◌, ◌-◌, ◌<◌, ◌≤◌, true, false, leb, List, [], ◌∷◌, ◌++◌, map, length, get_or, take, drop, Some, None, Ok, Err, Option, Result, sym, refl, ap, ◌∙◌, append_assoc, append-nil, arith, length-append}
use lib.Seq.{append_snoc}
use Rattle.std.proofs.lemmas.List.{drop_more, drop_all, drop-drop, take_more, length-take-le, length-drop}
use Rattle.std.proofs.lemmas.Bool.{cond_both, leb-true, leb-false, lt-ltb, le-ltb}
use Rattle.source.specs.Stream.{Item, byte, Tail, bytes_in}
use Rattle.model.specs.Cut.{Cut, before, through, nowhere, behind_one, behind}
use Rattle.model.specs.Gather.{Gathered, gathered, next, on_byte, gather}
use Rattle.errors.specs.declared.Error.{Error}
use Rattle.errors.specs.declared.Error.TheVariants.{BufferFull}
use Rattle.gather.specs.Resume.{reach, fitted, resumed}
use Rattle.model.proofs.Cuts.{behind-before, behind_through}
use Rattle.gather.specs.Scanned.{Scanned}
use Rattle.gather.specs.declared.cutter.Scan.{Scan}
use Rattle.gather.specs.declared.cutter.Scan.TheVariants.{Before, Through}
use Rattle.gather.proofs.Cuts.{behind-add, behind-before_more, behind_through_more}

pub bytes_in_run : (run : List ℕ) (is : List Item) → bytes_in (map byte run ++ is) ≡ run ++ bytes_in is
bytes_in_run [] is = refl
bytes_in_run (b ∷ bs) is = ap (λ xs. b ∷ xs) (bytes_in_run bs is)

module _ {E : Type 0} where
  next-behind : (c : Cut E) → next (behind_one c) ≡ c
  next-behind (before k e) = refl
  next-behind (through k e) = refl
  next-behind (nowhere due) = refl

  keeps : (c : Cut E) (so_far : List ℕ) (b : ℕ) (is : List Item) (g : Gathered E) → on_byte (behind_one c) true so_far b is g ≡ g
  keeps (before k e) so_far b is g = refl
  keeps (through k e) so_far b is g = refl
  keeps (nowhere due) so_far b is g = refl

  -- a cut that does not end the piece before its next byte
  abbrev Wants : Cut E → Type 0
  Wants c = (so_far : List ℕ) (b : ℕ) (is : List Item) (g : Gathered E) → on_byte c false so_far b is g ≡ gathered so_far (byte b ∷ is) (Err BufferFull)

  wants_behind : (c : Cut E) → Wants (behind_one c)
  wants_behind (before k e) so_far b is g = refl
  wants_behind (through k e) so_far b is g = refl
  wants_behind (nowhere due) so_far b is g = refl

  wants_through : (k : ℕ) (e : E) → Wants (through k e)
  wants_through zero e so_far b is g = refl
  wants_through (suc k) e so_far b is g = refl

  module _ (size p : ℕ) (is : List Item) (t : Tail) where
    -- n bytes of the piece come, and there is room for them
    skip : (n : ℕ) (run : List ℕ) (c : Cut E) (so_far : List ℕ) → n ≤ length run → n + length so_far ≤ size
        → gather (behind n c) size so_far p (map byte run ++ is) t ≡ gather c size (so_far ++ take n run) p (map byte (drop n run) ++ is) t
    skip zero run c so_far h l = ap (λ x. gather c size x p (map byte run ++ is) t) (sym (append-nil so_far))
    skip (suc n) [] c so_far h l = absurd (omega arith)
    skip (suc n) (b ∷ bs) c so_far h l =
        let long = length-append so_far (b ∷ []) in
        let rest = gather (next (behind_one (behind n c))) size (so_far ++ b ∷ []) p (map byte bs ++ is) t in
        ap (λ v. on_byte (behind_one (behind n c)) v so_far b (map byte bs ++ is) rest) (lt-ltb (length so_far) size (omega arith))
        ∙ keeps (behind n c) so_far b (map byte bs ++ is) rest
        ∙ ap (λ d. gather d size (so_far ++ b ∷ []) p (map byte bs ++ is) t) (next-behind (behind n c))
        ∙ skip n bs c (so_far ++ b ∷ []) (omega arith) (omega arith)
        ∙ ap (λ x. gather c size x p (map byte (drop n bs) ++ is) t) (append_snoc so_far b (take n bs))

    abbrev spilt : ℕ → List ℕ → List ℕ → Gathered E
    spilt room so_far run = gathered (so_far ++ take room run) (map byte (drop room run) ++ is) (Err BufferFull)

    -- one byte more than there is room for
    full : (run : List ℕ) (c : Cut E) (so_far : List ℕ) → Wants c → 0 < length run → length so_far ≡ size
        → gather c size so_far p (map byte run ++ is) t ≡ gathered so_far (map byte run ++ is) (Err BufferFull)
    full [] c so_far w h e = absurd (omega arith)
    full (b ∷ bs) c so_far w h e =
        let rest = gather (next c) size (so_far ++ b ∷ []) p (map byte bs ++ is) t in
        ap (λ v. on_byte c v so_far b (map byte bs ++ is) rest) (le-ltb (length so_far) size (omega arith)) ∙ w so_far b (map byte bs ++ is) rest

    spills : (room : ℕ) (run : List ℕ) (c : Cut E) (so_far : List ℕ) → Wants c → room < length run → room + length so_far ≡ size
        → gather (behind room c) size so_far p (map byte run ++ is) t ≡ spilt room so_far run
    spills room run c so_far w h e =
        let long = length-append so_far (take room run) in
        let front : length (take room run) ≡ room = length-take-le room run (omega arith) in
        let left = length-drop room run in
        skip room run c so_far (omega arith) (omega arith) ∙ full (drop room run) c (so_far ++ take room run) w (omega arith) (omega arith)

    -- what a run leads to, with as much of it gathered as there is room for
    abbrev pub onward : (List ℕ → Cut E) → List ℕ → List ℕ → ℕ × Option (Result E Error) → Gathered E
    onward cut so_far run q = resumed q.1 cut size (so_far ++ take q.0 run) p (map byte (drop q.0 run) ++ is) t

    ends_before : (run : List ℕ) (k : ℕ) (e : E) (so_far : List ℕ) → k < length run → k + length so_far ≤ size
        → gather (before k e) size so_far p (map byte run ++ is) t ≡ gathered (so_far ++ take k run) (map byte (drop k run) ++ is) (Ok e)
    ends_before run k e so_far h l =
        ap (λ c. gather c size so_far p (map byte run ++ is) t) (sym (behind-before k e))
        ∙ skip k run (before 0 e) so_far (omega arith) l
        ∙ there (drop k run) (let left = length-drop k run in omega arith)
      where
        there : (xs : List ℕ) → 0 < length xs
            → gather (before 0 e) size (so_far ++ take k run) p (map byte xs ++ is) t ≡ gathered (so_far ++ take k run) (map byte xs ++ is) (Ok e)
        there [] h = absurd (omega arith)
        there (x ∷ xs) h = refl

    ends_through : (run : List ℕ) (k : ℕ) (e : E) (so_far : List ℕ) → k < length run → suc k + length so_far ≤ size
        → gather (through k e) size so_far p (map byte run ++ is) t ≡ gathered (so_far ++ take (suc k) run) (map byte (drop (suc k) run) ++ is) (Ok e)
    ends_through run k e so_far h l =
        let more : k + 1 ≡ suc k = omega arith in
        let long = length-append so_far (take k run) in
        let front : length (take k run) ≡ k = length-take-le k run (omega arith) in
        ap (λ c. gather c size so_far p (map byte run ++ is) t) (sym (behind_through k e))
        ∙ skip k run (through 0 e) so_far (omega arith) (omega arith)
        ∙ ap (λ xs. gather (through 0 e) size (so_far ++ take k run) p (map byte xs ++ is) t) (drop_more run k 0 h)
        ∙ ap (λ v. on_byte (through 0 e) v (so_far ++ take k run) (get_or run k 0) (map byte (drop (k + 1) run) ++ is)
        (gather (through 0 e) size ((so_far ++ take k run) ++ get_or run k 0 ∷ []) p (map byte (drop (k + 1) run) ++ is) t))
        (lt-ltb (length (so_far ++ take k run)) size (omega arith))
        ∙ ap (λ xs. gathered xs (map byte (drop (k + 1) run) ++ is) (Ok e)) (append_assoc so_far (take k run) (get_or run k 0 ∷ []) ∙ ap (λ xs. so_far ++ xs) (sym (take_more run k 0 h)))
        ∙ ap (λ n. gathered (so_far ++ take n run) (map byte (drop n run) ++ is) (Ok e)) more

    module _ (cut : List ℕ → Cut E) (new : List ℕ → Cut E) (run so_far : List ℕ) (room : ℕ) (fits : room + length so_far ≡ size) where
      abbrev Goes : ℕ × Option (Result E Error) → Type 0
      Goes q = gather (cut (run ++ bytes_in is)) size so_far p (map byte run ++ is) t ≡ onward new so_far run q

      within : (r : Option (Scan E)) → Scanned cut new run r → (reach r (length run)).0 ≤ room → Goes (reach r (length run))
      within None s h =
          ap (λ c. gather c size so_far p (map byte run ++ is) t) (s (bytes_in is))
          ∙ skip (length run) run (new (bytes_in is)) so_far (omega arith) (omega arith)
          ∙ ap (λ bs. gather (new bs) size (so_far ++ take (length run) run) p (map byte (drop (length run) run) ++ is) t)
          (sym (bytes_in_run (drop (length run) run) is ∙ ap (λ xs. xs ++ bytes_in is) (drop_all (length run) run (omega arith))))
      within (Some (Before k e)) s h =
          ap (λ c. gather c size so_far p (map byte run ++ is) t) (s.1 (bytes_in is)) ∙ ends_before run k e so_far s.0 (omega arith)
      within (Some (Through k e)) s h =
          ap (λ c. gather c size so_far p (map byte run ++ is) t) (s.1 (bytes_in is)) ∙ ends_through run k e so_far s.0 (omega arith)

      beyond : (r : Option (Scan E)) → Scanned cut new run r → room < (reach r (length run)).0 → Goes (room, Some (Err BufferFull))
      beyond None s h =
          let more : room + suc (length run - suc room) ≡ length run = omega arith in
          ap (λ c. gather c size so_far p (map byte run ++ is) t)
          (s (bytes_in is) ∙ ap (λ n. behind n (new (bytes_in is))) (sym more) ∙ behind-add room (suc (length run - suc room)) (new (bytes_in is)))
          ∙ spills room run (behind (suc (length run - suc room)) (new (bytes_in is))) so_far (wants_behind (behind (length run - suc room) (new (bytes_in is)))) (omega arith) fits
      beyond (Some (Before k e)) s h =
          let within = s.0 in
          let more : room + suc (k - suc room) ≡ k = omega arith in
          ap (λ c. gather c size so_far p (map byte run ++ is) t)
          (s.1 (bytes_in is) ∙ ap (λ n. before n e) (sym more) ∙ sym (behind-before_more room (suc (k - suc room)) e))
          ∙ spills room run (before (suc (k - suc room)) e) so_far (wants_behind (before (k - suc room) e)) (omega arith) fits
      beyond (Some (Through k e)) s h =
          let within = s.0 in
          let more : room + (k - room) ≡ k = omega arith in
          ap (λ c. gather c size so_far p (map byte run ++ is) t)
          (s.1 (bytes_in is) ∙ ap (λ n. through n e) (sym more) ∙ sym (behind_through_more room (k - room) e))
          ∙ spills room run (through (k - room) e) so_far (wants_through (k - room) e) (omega arith) fits

      pub ran : (r : Option (Scan E)) → Scanned cut new run r → Goes (fitted r (length run) room)
      ran r s =
          cond_both (leb (reach r (length run)).0 room) _ _ Goes
          (λ y. within r s (leb-true (reach r (length run)).0 room y))
          (λ y. beyond r s (leb-false (reach r (length run)).0 room y))

pub drop-further : (m n : ℕ) (xs ys : List ℕ) → m ≤ n → drop m xs ≡ drop m ys → drop n xs ≡ drop n ys
drop-further m n xs ys h e =
    let k : m + (n - m) ≡ n = omega arith in
    ap (λ i. drop i xs) (sym k) ∙ sym (drop-drop (n - m) m xs) ∙ ap (drop (n - m)) e ∙ drop-drop (n - m) m ys ∙ ap (λ i. drop i ys) k
