-- What is gathered is a piece, and there is no other. Assumes nothing.
use Rattle.std.proofs.Common.{◌≡◌, ℕ, zero, suc, ◌+◌, ◌-◌, ◌<◌, ◌≤◌, Bool, true, false, ltb, List, [], ◌∷◌, ◌++◌, length, Ok, Err, sym, refl, ap, ◌∙◌, subst, append_assoc, append-nil, arith, length-append}
use lib.Seq.{append_snoc}
use Rattle.std.proofs.lemmas.List.{length_push}
use Rattle.std.proofs.lemmas.Bool.{ltb-true, ltb-false, lt-ltb, le-ltb}
use Rattle.source.specs.Stream.{Item, byte, wait, Tail, end, fault, bytes_in, waits_in}
use Rattle.model.specs.Cut.{Cut, before, through, nowhere, behind_one}
use Rattle.model.specs.Gather.{Gathered, gathered, next, on_byte, gather}
use Rattle.errors.specs.declared.Error.TheVariants.{Patience, Io, BufferFull}
use Rattle.split.specs.Piece.{count, Inside, Open, Holds, Ends, before_byte, with_byte, at_end, at_fault, at_wait, at_full, Piece, GatherIsPiece, PieceAlone}

pub bytes_append : (xs ys : List Item) → bytes_in (xs ++ ys) ≡ bytes_in xs ++ bytes_in ys
bytes_append [] ys = refl
bytes_append (byte b ∷ xs) ys = ap (λ bs. b ∷ bs) (bytes_append xs ys)
bytes_append (wait ∷ xs) ys = bytes_append xs ys

grows : (bs : List ℕ) (b size : ℕ) → ltb (length bs) size ≡ true → length (bs ++ b ∷ []) ≤ size
grows bs b size q = simp length_push (omega (arith, ltb-true (length bs) size q))

module _ {E : Type 0} where
  pub open_none : (c : Cut E) → Open c 0
  open_none (before k e) = omega arith
  open_none (through k e) = omega arith
  open_none (nowhere due) = tt

  -- one byte more in front
  pub open_behind : (c : Cut E) (n : ℕ) → Open c n → Open (behind_one c) (suc n)
  open_behind (before k e) n h = omega arith
  open_behind (through k e) n h = omega arith
  open_behind (nowhere due) n h = tt

  holds_behind : (c : Cut E) (n : ℕ) → Holds c n → Holds (behind_one c) (suc n)
  holds_behind (before k e) n h = omega arith
  holds_behind (through k e) n h = omega arith
  holds_behind (nowhere due) n h = tt

  -- one byte less
  open_next : (c : Cut E) (n : ℕ) → Open c (suc n) → Open (next c) n
  open_next (before zero e) n h = omega arith
  open_next (before (suc k) e) n h = omega arith
  open_next (through zero e) n h = omega arith
  open_next (through (suc k) e) n h = omega arith
  open_next (nowhere due) n h = tt

  holds_open : (c : Cut E) (n : ℕ) → Holds c n → Open c n
  holds_open (before k e) n h = omega arith
  holds_open (through k e) n h = omega arith
  holds_open (nowhere due) n h = tt

  module _ {size p : ℕ} {t : Tail} where
    -- a piece behind one item more
    ends_byte : (c : Cut E) (b : ℕ) {met : List Item} {g : Gathered E} → Ends c size p t met g → Ends (behind_one c) size p t (byte b ∷ met) g
    ends_byte c b (before_byte met q w) = before_byte (byte b ∷ met) (ap behind_one q) w
    ends_byte c b (with_byte met d q w) = with_byte (byte b ∷ met) d (ap behind_one q) w
    ends_byte c b (at_end met q w h) = at_end (byte b ∷ met) (ap behind_one q) w h
    ends_byte c b (at_fault met q w h) = at_fault (byte b ∷ met) (ap behind_one q) w h
    ends_byte c b (at_wait met o w) = at_wait (byte b ∷ met) (open_behind c (count met) o) w
    ends_byte c b (at_full met o w f) = at_full (byte b ∷ met) (holds_behind c (count met) o) w f

    ends_wait : {c : Cut E} {met : List Item} {g : Gathered E} → Ends c size p t met g → Ends c size (suc p) t (wait ∷ met) g
    ends_wait (before_byte met q w) = before_byte (wait ∷ met) q (omega arith)
    ends_wait (with_byte met d q w) = with_byte (wait ∷ met) d q (omega arith)
    ends_wait (at_end met q w h) = at_end (wait ∷ met) q (omega arith) h
    ends_wait (at_fault met q w h) = at_fault (wait ∷ met) q (omega arith) h
    ends_wait (at_wait met o w) = at_wait (wait ∷ met) o (ap suc w)
    ends_wait (at_full met o w f) = at_full (wait ∷ met) o (omega arith) f

    piece_byte : (c : Cut E) (so_far : List ℕ) (b : ℕ) {is : List Item} {g : Gathered E}
        → Piece c size (so_far ++ b ∷ []) p is t g → Piece (behind_one c) size so_far p (byte b ∷ is) t g
    piece_byte c so_far b h = record {
      met = byte b ∷ h.met;
      split = ap (λ is. byte b ∷ is) h.split;
      bytes = h.bytes ∙ append_snoc so_far b (bytes_in h.met);
      fits = h.fits;
      why = ends_byte c b h.why;
    }

    piece_wait : {c : Cut E} {so_far : List ℕ} {is : List Item} {g : Gathered E} → Piece c size so_far p is t g → Piece c size so_far (suc p) (wait ∷ is) t g
    piece_wait h = record {
      met = wait ∷ h.met;
      split = ap (λ is. wait ∷ is) h.split;
      bytes = h.bytes;
      fits = h.fits;
      why = ends_wait h.why;
    }

    -- nothing is used up
    piece_none : (c : Cut E) (so_far : List ℕ) (g : Gathered E) → g.bytes ≡ so_far → length so_far ≤ size → Ends c size p t [] g → Piece c size so_far p g.left t g
    piece_none c so_far g q room w = record {
      met = [];
      split = refl;
      bytes = q ∙ sym (append-nil so_far);
      fits = subst (λ bs. length bs ≤ size) (sym q) room;
      why = w;
    }

  module _ (size : ℕ) (so_far : List ℕ) (p : ℕ) (b : ℕ) (is : List Item) (t : Tail) (room : length so_far ≤ size) where
    full : (c : Cut E) → ltb (length so_far) size ≡ false → Holds c 0 → Piece c size so_far p (byte b ∷ is) t (gathered so_far (byte b ∷ is) (Err BufferFull))
    full c q h = piece_none c so_far (gathered so_far (byte b ∷ is) (Err BufferFull)) refl room (at_full [] h (omega arith) (omega (arith, ltb-false (length so_far) size q)))

    -- a byte comes first
    on_byte-piece : (c : Cut E) (fits : Bool) → ltb (length so_far) size ≡ fits → Inside c (suc (count is))
        → ((d : Cut E) → Inside d (count is) → length (so_far ++ b ∷ []) ≤ size → Piece d size (so_far ++ b ∷ []) p is t (gather d size (so_far ++ b ∷ []) p is t))
        → Piece c size so_far p (byte b ∷ is) t (on_byte c fits so_far b is (gather (next c) size (so_far ++ b ∷ []) p is t))
    on_byte-piece (before zero e) fits q h rest = piece_none (before zero e) so_far (gathered so_far (byte b ∷ is) (Ok e)) refl room (before_byte [] refl (omega arith))
    on_byte-piece (before (suc k) e) true q h rest = piece_byte (before k e) so_far b (rest (before k e) (omega arith) (grows so_far b size q))
    on_byte-piece (before (suc k) e) false q h rest = full (before (suc k) e) q (omega arith)
    on_byte-piece (through zero e) true q h rest = record {
      met = byte b ∷ [];
      split = refl;
      bytes = refl;
      fits = grows so_far b size q;
      why = with_byte [] b refl (omega arith);
    }
    on_byte-piece (through zero e) false q h rest = full (through zero e) q (omega arith)
    on_byte-piece (through (suc k) e) true q h rest = piece_byte (through k e) so_far b (rest (through k e) (omega arith) (grows so_far b size q))
    on_byte-piece (through (suc k) e) false q h rest = full (through (suc k) e) q (omega arith)
    on_byte-piece (nowhere due) true q h rest = piece_byte (nowhere due) so_far b (rest (nowhere due) tt (grows so_far b size q))
    on_byte-piece (nowhere due) false q h rest = full (nowhere due) q tt

  -- a cut within no bytes is nowhere
  none_inside : (P : Cut E → Type 0) (c : Cut E) → Inside c 0 → ((due : List ℕ → E) → P (nowhere due)) → P c
  none_inside P (before k e) h f = absurd (omega arith)
  none_inside P (through k e) h f = absurd (omega arith)
  none_inside P (nowhere due) h f = f due

pub gather_is_piece : (E : Type 0) → GatherIsPiece E
gather_is_piece E c size so_far p [] end h room =
    none_inside (λ x. Piece x size so_far p [] end (gather x size so_far p [] end)) c h
    (λ due. piece_none (nowhere due) so_far (gathered so_far [] (Ok (due so_far))) refl room (at_end [] refl (omega arith) refl))
gather_is_piece E c size so_far p [] (fault f) h room =
    none_inside (λ x. Piece x size so_far p [] (fault f) (gathered so_far [] (Err (Io f)))) c h
    (λ due. piece_none (nowhere due) so_far (gathered so_far [] (Err (Io f))) refl room (at_fault [] refl (omega arith) refl))
gather_is_piece E c size so_far zero (wait ∷ is) t h room = record {
  met = wait ∷ [];
  split = refl;
  bytes = sym (append-nil so_far);
  fits = room;
  why = at_wait [] (open_none c) refl;
}
gather_is_piece E c size so_far (suc p) (wait ∷ is) t h room = piece_wait (gather_is_piece E c size so_far p is t h room)
gather_is_piece E c size so_far p (byte b ∷ is) t h room =
    on_byte-piece size so_far p b is t room c (ltb (length so_far) size) refl h (λ d i r. gather_is_piece E d size (so_far ++ b ∷ []) p is t i r)

module _ {E : Type 0} where
  -- the cut, as seen from behind n bytes more
  abbrev ahead : ℕ → Cut E → Cut E
  ahead zero c = c
  ahead (suc n) c = ahead n (next c)

  ahead_before : (n : ℕ) (e : E) → ahead n (before n e) ≡ before 0 e
  ahead_before zero e = refl
  ahead_before (suc n) e = ahead_before n e

  ahead_through : (n : ℕ) (e : E) → ahead n (through n e) ≡ through 0 e
  ahead_through zero e = refl
  ahead_through (suc n) e = ahead_through n e

  ahead_nowhere : (n : ℕ) (due : List ℕ → E) → ahead n (nowhere due) ≡ nowhere due
  ahead_nowhere zero due = refl
  ahead_nowhere (suc n) due = ahead_nowhere n due

  -- a byte that fits, and does not end the piece
  on_byte_open : (c : Cut E) (n : ℕ) (fits : Bool) (so_far : List ℕ) (b : ℕ) (is : List Item) (rest : Gathered E) → Open c (suc n) → fits ≡ true
      → on_byte c fits so_far b is rest ≡ rest
  on_byte_open (before zero e) n fits so_far b is rest h q = absurd (omega arith)
  on_byte_open (before (suc k) e) n fits so_far b is rest h q = rw q
  on_byte_open (through zero e) n fits so_far b is rest h q = absurd (omega arith)
  on_byte_open (through (suc k) e) n fits so_far b is rest h q = rw q
  on_byte_open (nowhere due) n fits so_far b is rest h q = rw q

  -- a byte of the piece that does not fit
  on_byte_full : (c : Cut E) (n : ℕ) (fits : Bool) (so_far : List ℕ) (b : ℕ) (is : List Item) (rest : Gathered E) → Holds c n → fits ≡ false
      → on_byte (ahead n c) fits so_far b is rest ≡ gathered so_far (byte b ∷ is) (Err BufferFull)
  on_byte_full (before zero e) n fits so_far b is rest h q = absurd (omega arith)
  on_byte_full (before (suc k) e) zero fits so_far b is rest h q = rw q
  on_byte_full (before (suc k) e) (suc n) fits so_far b is rest h q = on_byte_full (before k e) n fits so_far b is rest (omega arith) q
  on_byte_full (through zero e) zero fits so_far b is rest h q = rw q
  on_byte_full (through (suc k) e) zero fits so_far b is rest h q = rw q
  on_byte_full (through zero e) (suc n) fits so_far b is rest h q = absurd (omega arith)
  on_byte_full (through (suc k) e) (suc n) fits so_far b is rest h q = on_byte_full (through k e) n fits so_far b is rest (omega arith) q
  on_byte_full (nowhere due) n fits so_far b is rest h q = rw (ahead_nowhere n due, q)

  module _ (size : ℕ) (t : Tail) where
    -- gathering passes the items that the piece has, with room and patience for them
    passes : (c : Cut E) (so_far : List ℕ) (p q : ℕ) (met rest : List Item) → Open c (count met) → p ≡ waits_in met + q → length so_far + count met ≤ size
        → gather c size so_far p (met ++ rest) t ≡ gather (ahead (count met) c) size (so_far ++ bytes_in met) q rest t
    passes c so_far p q [] rest h w room =
        let e : p ≡ q = omega arith in rw (append-nil, e)
    passes c so_far zero q (wait ∷ met) rest h w room = absurd (omega arith)
    passes c so_far (suc p) q (wait ∷ met) rest h w room = passes c so_far p q met rest h (omega arith) room
    passes c so_far p q (byte b ∷ met) rest h w room =
        on_byte_open c (count met) (ltb (length so_far) size) so_far b (met ++ rest) (gather (next c) size (so_far ++ b ∷ []) p (met ++ rest) t) h (lt-ltb (length so_far) size (omega arith))
        ∙ passes (next c) (so_far ++ b ∷ []) p q met rest (open_next c (count met) h) w (simp length_push (omega arith))
        ∙ ap (λ bs. gather (ahead (count met) (next c)) size bs q rest t) (append_snoc so_far b (bytes_in met))

    module _ (c : Cut E) (so_far : List ℕ) (p : ℕ) where
      -- the same by what the cut is, and what is left of it
      passes_to : (x y : Cut E) (met rest : List Item) → c ≡ x → Open x (count met) → ahead (count met) x ≡ y → waits_in met ≤ p → length (so_far ++ bytes_in met) ≤ size
          → gather c size so_far p (met ++ rest) t ≡ gather y size (so_far ++ bytes_in met) (p - waits_in met) rest t
      passes_to x y met rest q h a w room =
          ap (λ z. gather z size so_far p (met ++ rest) t) q
          ∙ passes x so_far p (p - waits_in met) met rest h (omega arith) (simp length-append at room)
          ∙ ap (λ z. gather z size (so_far ++ bytes_in met) (p - waits_in met) rest t) a

      ends_gathered : {met : List Item} {g : Gathered E} → Ends c size p t met g → g.bytes ≡ so_far ++ bytes_in met → length g.bytes ≤ size
          → g ≡ gather c size so_far p (met ++ g.left) t
      ends_gathered (before_byte met {is = is} {b = b} {e = e} q w) bytes fits =
          ap (λ x. gathered x (byte b ∷ is) (Ok e)) bytes
          ∙ sym (passes_to (before (count met) e) (before 0 e) met (byte b ∷ is) q (omega arith) (ahead_before (count met) e) w (rw bytes at fits))
      ends_gathered (with_byte met b {is = is} {bs = bs} {e = e} q w) bytes fits =
          let old = so_far ++ bytes_in met in
          let all : bs ≡ old ++ b ∷ [] = bytes ∙ ap (λ x. so_far ++ x) (bytes_append met (byte b ∷ [])) ∙ sym (append_assoc so_far (bytes_in met) (b ∷ [])) in
          let room : length old < size = omega (arith, length_push old b, (rw all at fits)) in
          ap (λ x. gathered x is (Ok e)) all
          ∙ ap (λ x. on_byte (through 0 e) x old b is (gather (through 0 e) size (old ++ b ∷ []) (p - waits_in met) is t)) (sym (lt-ltb (length old) size room))
          ∙ sym (passes_to (through (count met) e) (through 0 e) met (byte b ∷ is) q (omega arith) (ahead_through (count met) e) w (omega arith))
          ∙ ap (λ x. gather c size so_far p x t) (sym (append_assoc met (byte b ∷ []) is))
      ends_gathered (at_end met {due = due} q w h) bytes fits =
          ap (λ x. gathered x [] (Ok (due x))) bytes
          ∙ ap (λ u. gather (nowhere due) size (so_far ++ bytes_in met) (p - waits_in met) [] u) (sym h)
          ∙ sym (passes_to (nowhere due) (nowhere due) met [] q tt (ahead_nowhere (count met) due) w (rw bytes at fits))
      ends_gathered (at_fault met {due = due} {f = f} q w h) bytes fits =
          ap (λ x. gathered x [] (Err (Io f))) bytes
          ∙ ap (λ u. gather (nowhere due) size (so_far ++ bytes_in met) (p - waits_in met) [] u) (sym h)
          ∙ sym (passes_to (nowhere due) (nowhere due) met [] q tt (ahead_nowhere (count met) due) w (rw bytes at fits))
      ends_gathered (at_wait met {is = is} {bs = bs} o w) bytes fits =
          let all : bs ≡ so_far ++ bytes_in met = bytes ∙ ap (λ x. so_far ++ x) (bytes_append met (wait ∷ []) ∙ append-nil (bytes_in met)) in
          let room : length (so_far ++ bytes_in met) ≤ size = rw all at fits in
          ap (λ x. gathered x is (Err Patience)) all
          ∙ sym (passes c so_far p 0 met (wait ∷ is) o (omega arith) (simp length-append at room))
          ∙ ap (λ x. gather c size so_far p x t) (sym (append_assoc met (wait ∷ []) is))
      ends_gathered (at_full met {is = is} {b = b} o w f) bytes fits =
          let old = so_far ++ bytes_in met in
          let none : size ≤ length old = omega (arith, ap length bytes) in
          ap (λ x. gathered x (byte b ∷ is) (Err BufferFull)) bytes
          ∙ sym (on_byte_full c (count met) (ltb (length old) size) old b is _ o (le-ltb (length old) size none))
          ∙ sym (passes_to c (ahead (count met) c) met (byte b ∷ is) refl (holds_open c (count met) o) refl w (rw bytes at fits))

pub piece-gathered : {E : Type 0} (c : Cut E) (size : ℕ) (so_far : List ℕ) (p : ℕ) (items : List Item) (t : Tail) (g : Gathered E)
    → Piece c size so_far p items t g → g ≡ gather c size so_far p items t
piece-gathered c size so_far p items t g h =
    ends_gathered size t c so_far p h.why h.bytes h.fits ∙ ap (λ is. gather c size so_far p is t) (sym h.split)

pub piece_alone : (E : Type 0) → PieceAlone E
piece_alone E c size so_far p items t g h x y = piece-gathered c size so_far p items t g x ∙ sym (piece-gathered c size so_far p items t h y)
