-- A call that gathers one piece gives the one that there is. Assumes nothing.
use Rattle.std.proofs.Common.{◌≡◌, ℕ, ◌^◌, ◌≤◌, cond, ltb, leb, List, length, drop, Ok, Err, Option, Result, sym, refl, ap, ◌∙◌, subst, arith}
use Rattle.std.proofs.lemmas.List.{take_at, drop_at}
use Rattle.std.proofs.lemmas.Bool.{cond_both, ltb-false}
use Rattle.source.specs.Stream.{bytes_of}
use Rattle.parser.specs.Scan.{Meaning, Prefix}
use Rattle.model.specs.Gather.{Gathered, gather}
use Rattle.model.specs.Call.{State, pends, chain, admitted, Reading, read_piece, unless_early, text_reading, ref_reading, with_reading}
use Rattle.model.specs.declared.ending.Pending.{Pending}
use Rattle.errors.specs.declared.Error.{Error}
use Rattle.errors.specs.declared.Error.TheVariants.{BufferTooShort}
use Rattle.split.specs.Lawful.{Lawful}
use Rattle.split.specs.Reads.{PieceOf, OnePiece, asked, ReadsOnePiece}
use Rattle.split.proofs.Cuts.{text_lawful, ref_lawful, scan_lawful}
use Rattle.split.proofs.Pieces.{gather_is_piece, piece-gathered}

-- the least buffer is one of the questions
module _ (size least : ℕ) where
  abbrev Long : Result (Unit {0}) Error → Type 0
  Long a = a ≡ Ok tt → least ≤ size

  chain_long : (a : Result (Unit {0}) Error) → Long (chain a (λ _. cond (ltb size least) (Err BufferTooShort) (Ok tt)))
  chain_long (Ok u) = cond_both (ltb size least) _ _ Long (λ _ q. cc) (λ q _. ltb-false size least q)
  chain_long (Err e) = λ q. cc

  pub admitted_long : (position : ℕ) (w : Pending) (o : Option ℕ) → Long (admitted position size w o least)
  admitted_long position w o =
      cond_both (leb (2 ^ 63) position) _ _ Long (λ _ q. cc)
      (λ _. cond_both (ltb 16777216 size) _ _ Long (λ _ q. cc) (λ _. chain_long (pends w o)))

module _ {E A : Type 0} (r : Reading E A) where
  -- what is gathered is the one piece
  pub one_piece : (s : State) (buf : List ℕ) (p : ℕ) → Lawful r.cut → length r.prefix ≤ length buf
      → (g : Gathered E) → g ≡ gather (r.cut (bytes_of s.stream)) (length buf) r.prefix p s.stream.items s.stream.tail
      → OnePiece r s buf p (read_piece r s buf p g)
  one_piece s buf p law room g q = record {
    piece = record {
      it = g;
      is = subst (PieceOf r s buf p) (sym q) (gather_is_piece E _ _ _ _ _ _ (law.inside (bytes_of s.stream)) room);
      only = λ h x. piece-gathered _ _ _ _ _ _ h x ∙ sym q;
    };
    gave = record {
      answer = refl;
      items = refl;
      tail = refl;
      position = refl;
      opening = refl;
      front = take_at g.bytes (drop (length g.bytes) buf) (length g.bytes) refl;
      behind = drop_at g.bytes (drop (length g.bytes) buf) (length g.bytes) refl;
    };
  }

  -- a call that gathers one piece
  reads_one_piece : Lawful r.cut → length r.prefix ≤ r.least → ReadsOnePiece r
  reads_one_piece law room s buf p = record {
    refused = λ e q. ap (unless_early r s buf p) q;
    read = λ q. subst (OnePiece r s buf p) (sym (ap (unless_early r s buf p) q)) (one_piece s buf p law (fits q) _ refl);
  }
    where
      fits : asked r s buf ≡ Ok tt → length r.prefix ≤ length buf
      fits q = omega (arith, admitted_long (length buf) r.least s.position r.wanted s.opening q)

pub texts_one_piece : ReadsOnePiece text_reading
texts_one_piece = reads_one_piece text_reading text_lawful (omega arith)

pub refs_one_piece : ReadsOnePiece ref_reading
refs_one_piece = reads_one_piece ref_reading ref_lawful (omega arith)

pub scans_one_piece : {T : Type 0} (token : T) (m : Meaning) → Prefix m → ReadsOnePiece (with_reading token m)
scans_one_piece token m law = reads_one_piece (with_reading token m) (scan_lawful m law) (omega arith)
