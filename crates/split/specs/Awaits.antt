-- What peek_one and read_bang_element do, told by the byte that each of them awaits.
use Rattle.std.specs.Prelude.{◌≡◌, ℕ, ◌-◌, if◌then◌else◌, List, [], ◌∷◌, length, drop, Some, None, Ok, Err, Option, Result, ◌==◌}
use Rattle.source.specs.Stream.{Item, byte, Tail, bytes_in, waits_in}
use Rattle.bang.specs.Bang.{bang}
use Rattle.bang.specs.declared.bang.BangType.{BangType}
use Rattle.parser.specs.declared.errors.SyntaxError.{SyntaxError}
use Rattle.model.specs.Cut.{Cut, before, nowhere, scan_cut}
use Rattle.model.specs.Gather.{Gathered}
use Rattle.model.specs.Call.{State, left_with, Outcome, outcome, admitted, chain, spending, with_piece, Reading}
use Rattle.model.specs.Peek.{peek_none, peek_behind, peeks}
use Rattle.model.specs.Bang.{bang_of, bang_prefix, bang_stuck, kind_of, with_kind, bangs}
use Rattle.model.specs.declared.answer.BangKind.{BangKind}
use Rattle.model.specs.declared.answer.Refusal.{Refusal}
use Rattle.model.specs.declared.answer.Refused.{Refused}
use Rattle.model.specs.declared.answer.Refused.TheVariants.{Kept}
use Rattle.model.specs.declared.ending.Pending.TheVariants as pending
use Rattle.errors.specs.declared.Error.{Error}
use Rattle.errors.specs.declared.Error.TheVariants.{FirstByte}
use Rattle.split.specs.Piece.{Piece, Only}
use Rattle.split.specs.Reads.{OnePiece}

-- a byte is awaited as a piece of no bytes, which ends before the first
abbrev pub first_cut : List ℕ → Cut (Option ℕ)
first_cut [] = nowhere (λ _. None)
first_cut (b ∷ bs) = before 0 (Some b)

abbrev pub First : ℕ → List Item → Tail → Gathered (Option ℕ) → Type 0
First patience is t = Piece (first_cut (bytes_in is)) 0 [] patience is t

-- `<` (60) must come first
abbrev pub opens : Result (Option ℕ) Error → Result (Unit {0}) Error
opens (Ok (Some b)) = if b == 60 then Ok tt else Err FirstByte
opens (Ok None) = Err FirstByte
opens (Err e) = Err e

abbrev pub peek_asked : State → Result (Unit {0}) Error
peek_asked s = admitted s.position 0 pending.Nothing s.opening 0

module _ {T : Type 0} (token : T) (s : State) where
  -- behind the `<`, the next byte is awaited with the patience that is left
  pub record BehindOpening (patience : ℕ) (is : List Item) (o : Outcome (Result (Option (ℕ × T)) Refusal)) : Type 0 where
    pub first : Only (First patience is s.stream.tail)
    pub gave : o ≡ peek_behind token s first.it.ending first.it.left

  pub record AtOpening (patience : ℕ) (o : Outcome (Result (Option (ℕ × T)) Refusal)) : Type 0 where
    pub first : Only (First patience s.stream.items s.stream.tail)
    pub none : (e : Error) → opens first.it.ending ≡ Err e → o ≡ peek_none token s e first.it.left
    pub some : opens first.it.ending ≡ Ok tt → BehindOpening (patience - waits_in first.is.met) (drop 1 first.it.left) o

  -- peek_one
  pub record PeekCall (patience : ℕ) (o : Outcome (Result (Option (ℕ × T)) Refusal)) : Type 0 where
    pub refused : (e : Error) → peek_asked s ≡ Err e → o ≡ peek_none token s e s.stream.items
    pub read : peek_asked s ≡ Ok tt → AtOpening patience o

-- what read_bang_element gathers once it knows the kind
abbrev pub bang_reading : {T : Type 0} → T → BangType → Reading (Result (Unit {0}) SyntaxError) (Result (BangKind × ℕ) (Refused T))
bang_reading token k = record {
  cut = scan_cut (bang k);
  prefix = bang_prefix;
  wanted = pending.Bang;
  least = 2;
  early = λ e. Err (Kept e token);
  answer = λ bs e. spending (length bs) (with_kind (kind_of k) (chain e (with_piece bs)));
}

module _ {T : Type 0} (token : T) (s : State) (buf : List ℕ) (patience : ℕ) (o : Outcome (Result (BangKind × ℕ) (Refused T))) where
  -- behind the `!`, the first byte names the kind, and the one piece of that kind begins with it
  pub record BehindBang : Type 0 where
    pub first : Only (First patience s.stream.items s.stream.tail)
    pub none : (e : Error) → chain first.it.ending bang_of ≡ Err e → o ≡ bang_stuck token s buf bang_prefix 1 e first.it.left
    pub some : (k : BangType) → chain first.it.ending bang_of ≡ Ok k → OnePiece (bang_reading token k) s buf patience o

abbrev pub bang_asked : State → List ℕ → Result (Unit {0}) Error
bang_asked s buf = admitted s.position (length buf) pending.Bang s.opening 2

module _ {T : Type 0} (token : T) where
  -- read_bang_element, where the `!` that was peeked comes first
  pub record BangCall (s : State) (buf : List ℕ) (patience : ℕ) (o : Outcome (Result (BangKind × ℕ) (Refused T))) : Type 0 where
    pub refused : (e : Error) → bang_asked s buf ≡ Err e → o ≡ outcome (Err (Kept e token)) s buf
    pub read : bang_asked s buf ≡ Ok tt → (b : ℕ) (is : List Item) → s.stream.items ≡ byte b ∷ is
        → BehindBang token (left_with s is s.position s.opening) buf patience o

  abbrev pub PeeksFirst : Type 0
  PeeksFirst = (s : State) (patience : ℕ) → PeekCall token s patience (peeks token s patience)

  abbrev pub BangsOnePiece : Type 0
  BangsOnePiece = (s : State) (buf : List ℕ) (patience : ℕ) → BangCall s buf patience (bangs token s buf patience)
