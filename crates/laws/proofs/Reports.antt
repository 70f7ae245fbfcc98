-- The report comes out whole over every history. Assumes nothing.
use Rattle.std.proofs.Common.{◌≡◌, ℕ, zero, suc, ◌+◌, ◌-◌, ◌^◌, ◌≤◌, true, false, cond, eqb, ltb, leb, List, [], ◌∷◌, ◌++◌, length, take, drop, Some, None, Ok, Err, Option, Result, sym, refl, ap, ◌∙◌, subst, append_assoc, append-nil, arith, length-append}
use Rattle.std.specs.Option.{ok_or}
use Rattle.std.proofs.lemmas.List.{take_at}
use Rattle.std.proofs.lemmas.Bool.{cond_both, eqb-true, ne_eqb}
use Rattle.source.specs.Stream.{Item, byte, wait, Tail, end, fault, bytes_in, bytes_of}
use Rattle.parser.specs.Scan.{Verdict, stop, unclosed, later}
use Rattle.parser.specs.Bytes.{Move, halt, goes, machine}
use Rattle.parser.specs.CData.{cdata_due}
use Rattle.parser.specs.Doubled.{doubled_step}
use Rattle.bang.specs.Comment.{bang_comment_step, bang_comment_due}
use Rattle.bang.specs.Bang.{bang, bang_type}
use Rattle.bang.specs.Dtd.{dtd_step, dtd_due}
use Rattle.bang.specs.declared.bang.BangType.{BangType}
use Rattle.bang.specs.declared.bang.BangType.TheVariants as scanner
use Rattle.parser.specs.declared.errors.SyntaxError.{SyntaxError}
use Rattle.parser.specs.declared.errors.SyntaxError.TheVariants.{InvalidBangMarkup}
use Rattle.utf8.specs.Utf8.{judged}
use Rattle.utf8.specs.declared.Utf8Error.{Utf8Error}
use Rattle.model.specs.Told.{told, with_told, bang_told, refused_told}
use Rattle.model.specs.Cut.{Cut, at_end, verdict_cut, scan_cut}
use Rattle.model.specs.Gather.{Gathered, gathered, next, gather}
use Rattle.model.specs.Call.{State, left_with, Outcome, outcome, pends, chain, admitted, checked, refusal, over, Reading, unless_early, reads, text_reading, ref_reading, spending, with_piece, with_reading}
use Rattle.model.specs.Peek.{await, peek_none, peek_after, peek_from, peek_unless, peeks, abandons, abandon_unless}
use Rattle.model.specs.Bang.{bang_prefix, with_kind, kind_of, bang_stuck, bang_named, bang_after, bang_from, bang_unless, bangs}
use Rattle.model.specs.History.{Call, read_text, read_ref, peek_one, read_with, read_bang_element, abandon, Event, event, answering, unwritten, stays, lost_by, given, joined, lost, open_bytes, StandsFirst, total, told_taken, does, History, fresh, more, Whole, Made, ReportWhole, Continues}
use Rattle.model.specs.declared.ending.Pending.{Pending}
use Rattle.model.specs.declared.ending.Pending.TheVariants as pending
use Rattle.model.specs.declared.answer.BangKind.{BangKind}
use Rattle.model.specs.declared.answer.Refused.{Refused}
use Rattle.model.specs.declared.answer.Refused.TheVariants as refused
use Rattle.model.specs.declared.answer.Answer.{Answer}
use Rattle.model.specs.declared.answer.Answer.TheVariants.{Text, Ref, Peek, With, Bang, Abandon}
use Rattle.errors.specs.declared.Error.{Error}
use Rattle.errors.specs.declared.Error.TheVariants.{Position, BufferTooLong, Opening, NotBang, BufferTooShort, Patience, Io, FirstByte, Syntax}
use Rattle.model.proofs.Counts.{counts, text-counts, ref-counts, scanned_counts}
use Rattle.laws.proofs.Gathers.{on_byte-both, next_end, gather_keeps, gather_grows, await-both}

-- what has yet to be given out: the pending `<`, and what the source has left
abbrev standing : State → List ℕ
standing s = open_bytes s.opening ++ bytes_of s.stream

abbrev Faces : State → Type 0
Faces s = StandsFirst s.opening s.stream.items

-- how many bytes of a pending opening were taken
abbrev opened : State → ℕ
opened s = length (open_bytes s.opening)

-- from s to t the bytes bs are given out, n of them are left out of the position, and k are told as taken
record Kept (s : State) (bs : List ℕ) (n k : ℕ) (t : State) : Type 0 where
  bytes : bs ++ standing t ≡ standing s
  count : length bs + s.position ≡ t.position + n
  taken : k + opened s ≡ length bs + opened t
  faced : Faces t

kept_on : {s t u : State} {bs cs : List ℕ} {m n j k : ℕ} → Kept s bs m j t → Kept t cs n k u → Kept s (bs ++ cs) (m + n) (j + k) u
kept_on {u = u} {bs = bs} {cs = cs} k l = record {
  bytes = append_assoc bs cs (standing u) ∙ ap (λ x. bs ++ x) l.bytes ∙ k.bytes;
  count = omega (arith, k.count, l.count, length-append bs cs);
  taken = omega (arith, k.taken, l.taken, length-append bs cs);
  faced = l.faced;
}

-- the questions before any look

-- a call is let through
abbrev Admits : Result (Unit {0}) Error → Type 0
Admits a = a ≡ Ok tt

-- with nothing written, this is no refusal of read_bang_element after which the position stays
abbrev Early : Error → Type 0
Early e = stays (refused_told (refusal e 0 0)) ≡ false

module _ (P : Result (Unit {0}) Error → Type 0) (early : (e : Error) → Early e → P (Err e)) where
  pends-either : (w : Pending) (o : Option ℕ) → (Admits (pends w o) → P (Ok tt)) → P (pends w o)
  pends-either pending.Nothing None there = there refl
  pends-either pending.Nothing (Some b) there = early Opening refl
  pends-either pending.Opening None there = early Opening refl
  pends-either pending.Opening (Some b) there = there refl
  pends-either pending.Bang None there = early Opening refl
  pends-either pending.Bang (Some b) there = cond_both (eqb b 33) _ _ (λ x. (Admits x → P (Ok tt)) → P x) (λ _ f. f refl) (λ _ _. early NotBang refl) there

-- a call is refused early, or finds pending what it wants
admitted-either : (P : Result (Unit {0}) Error → Type 0) → ((e : Error) → Early e → P (Err e)) → (position size : ℕ) (w : Pending) (o : Option ℕ) (least : ℕ)
    → (Admits (pends w o) → P (Ok tt)) → P (admitted position size w o least)
admitted-either P early position size w o least there =
    cond_both (leb (2 ^ 63) position) _ _ P (λ _. early Position refl)
    (λ _. cond_both (ltb 16777216 size) _ _ P (λ _. early BufferTooLong refl)
    (λ _. pends-either (λ a. P (chain a (λ _. cond (ltb size least) (Err BufferTooShort) (Ok tt)))) early w o
    (λ h. cond_both (ltb size least) _ _ P (λ _. early BufferTooShort refl) (λ _. there h))))

nothing_pends : (o : Option ℕ) → Admits (pends pending.Nothing o) → o ≡ None
nothing_pends None h = refl
nothing_pends (Some b) h = cc

opening_pends : (o : Option ℕ) → Admits (pends pending.Opening o) → 60 ∷ [] ≡ open_bytes o
opening_pends None h = cc
opening_pends (Some b) h = refl

bang-pends : (o : Option ℕ) → Admits (pends pending.Bang o) → o ≡ Some 33
bang-pends None h = cc
bang-pends (Some b) h = cond_both (eqb b 33) _ _ (λ x. Admits x → Some b ≡ Some 33) (λ e _. ap Some (eqb-true b 33 e)) (λ _ k. cc) h

-- one call

module _ {T : Type 0} where
  -- what a call gives out, as its event has it
  abbrev gives : Outcome (Answer T) → List ℕ
  gives o = take (told o.answer).written o.buffer ++ unwritten o.answer

  abbrev Keeps : State → Outcome (Answer T) → Type 0
  Keeps s o = Kept s (gives o) (lost_by o.answer) (told o.answer).taken o.after

module _ {T : Type 0} (s : State) where
  -- a call that writes bs
  wrote : (buf : List ℕ) (a : Answer T) (bs : List ℕ) (k : ℕ) (is : List Item) (q : ℕ) → counts (told a) ≡ (length bs, k) → k + opened s ≡ length bs → unwritten a ≡ []
      → length bs + s.position ≡ q + lost_by a → bs ++ bytes_in is ≡ standing s → Keeps s (outcome a (left_with s is q None) (over bs buf))
  wrote buf a bs k is q w t u n h =
      let front : gives (outcome a (left_with s is q None) (over bs buf)) ≡ bs =
      ap (λ x. take x.0 (over bs buf) ++ unwritten a) w
      ∙ ap (λ x. x ++ unwritten a) (take_at bs (drop (length bs) buf) (length bs) refl) ∙ ap (λ x. bs ++ x) u ∙ append-nil bs in
      record {
        bytes = ap (λ x. x ++ bytes_in is) front ∙ h;
        count = ap (λ x. length x + s.position) front ∙ n;
        taken = omega (arith, ap (λ x. x.1) w, ap length front);
        faced = tt;
      }

  -- a call that is refused early
  untouched : Faces s → (buf : List ℕ) (a : Answer T) → counts (told a) ≡ (0, 0) → unwritten a ≡ [] → lost_by a ≡ 0 → Keeps s (outcome a s buf)
  untouched f buf a w u n =
      let none : gives (outcome a s buf) ≡ [] = ap (λ x. take x.0 buf ++ unwritten a) w ∙ u in
      record {
        bytes = ap (λ x. x ++ standing s) none;
        count = ap (λ x. length x + s.position) none ∙ omega (arith, n);
        taken = omega (arith, ap (λ x. x.1) w, ap length none);
        faced = f;
      }

  -- read_text, read_ref and read_with: k says how many of the bytes written are taken now
  reads_keeps : {E A : Type 0} (f : A → Answer T) (r : Reading E A) (buf : List ℕ) (p : ℕ) (k : ℕ → ℕ) → ((a : A) → unwritten (f a) ≡ []) → ((a : A) → lost_by (f a) ≡ 0)
      → ((e : Error) → counts (told (f (r.early e))) ≡ (0, 0)) → ((bs : List ℕ) (e : Result E Error) → counts (told (f (r.answer bs e))) ≡ (length bs, k (length bs)))
      → ((n : ℕ) → length r.prefix ≤ n → k n + length r.prefix ≡ n)
      → (Admits (pends r.wanted s.opening) → r.prefix ≡ open_bytes s.opening) → Faces s → Keeps s (answering f (reads r s buf p))
  reads_keeps f r buf p k u n early written behind front faced =
      let c = r.cut (bytes_of s.stream) in
      let g = gather c (length buf) r.prefix p s.stream.items s.stream.tail in
      let a = r.answer g.bytes g.ending in
      admitted-either (λ x. Keeps s (answering f (unless_early r s buf p x)))
      (λ e _. untouched faced buf (f (r.early e)) (early e) (u (r.early e)) (n (r.early e))) s.position (length buf) r.wanted s.opening r.least
      (λ there. wrote buf (f a) g.bytes (k (length g.bytes)) g.left (s.position + length g.bytes) (written g.bytes g.ending)
      (ap (λ x. k (length g.bytes) + length x) (sym (front there))
      ∙ behind (length g.bytes) (gather_grows c (length buf) r.prefix p s.stream.items s.stream.tail)) (u a) (omega (arith, n a))
      (gather_keeps c (length buf) r.prefix p s.stream.items s.stream.tail ∙ ap (λ x. x ++ bytes_of s.stream) (front there)))

module _ {T : Type 0} (s : State) (token : T) where
  none_keeps : (e : Error) (is : List Item) → bytes_in is ≡ bytes_of s.stream → StandsFirst s.opening is → Keeps s (answering Peek (peek_none token s e is))
  none_keeps e is h k = record { bytes = ap (λ x. open_bytes s.opening ++ x) h; count = omega arith; taken = refl; faced = k }

  -- behind a `<`
  peek_after_keeps : (p : ℕ) (is : List Item) → s.opening ≡ None → 60 ∷ bytes_in is ≡ standing s → Keeps s (answering Peek (peek_after token s (await p is s.stream.tail)))
  peek_after_keeps p is none h =
      let zero : opened s ≡ 0 = ap (λ o. length (open_bytes o)) none in
      let same : (bs : List ℕ) → bs ≡ bytes_in is → 60 ∷ bs ≡ standing s = λ bs e. ap (λ x. 60 ∷ x) e ∙ h in
      await-both (λ a _. Keeps s (answering Peek (peek_after token s a))) p is s.stream.tail
      (λ _ e. record { bytes = same [] e; count = omega arith; taken = omega arith; faced = tt })
      (λ _ _ e. record { bytes = same [] e; count = omega arith; taken = omega arith; faced = tt })
      (λ js _ e. record { bytes = same (bytes_in js) e; count = omega arith; taken = omega arith; faced = tt })
      (λ b js _ e. record { bytes = same (b ∷ bytes_in js) e; count = omega arith; taken = omega arith; faced = refl })

  peek_from_keeps : (p : ℕ) → s.opening ≡ None → Keeps s (answering Peek (peek_from token s (await p s.stream.items s.stream.tail)))
  peek_from_keeps p none =
      let k : (is : List Item) → StandsFirst s.opening is = λ is. subst (λ o. StandsFirst o is) (sym none) tt in
      await-both (λ a _. Keeps s (answering Peek (peek_from token s a))) p s.stream.items s.stream.tail
      (λ _ e. none_keeps FirstByte [] e (k []))
      (λ f _ e. none_keeps (Io f) [] e (k []))
      (λ js _ e. none_keeps Patience js e (k js))
      (λ b js q e. cond_both (eqb b 60) _ _ (λ o. Keeps s (answering Peek o))
      (λ y. peek_after_keeps q js none
      (ap (λ x. x ∷ bytes_in js) (sym (eqb-true b 60 y)) ∙ e ∙ ap (λ o. open_bytes o ++ bytes_of s.stream) (sym none)))
      (λ _. none_keeps FirstByte (byte b ∷ js) e (k (byte b ∷ js))))

  peeks_keep : (p : ℕ) → Faces s → Keeps s (answering Peek (peeks token s p))
  peeks_keep p k =
      admitted-either (λ a. Keeps s (answering Peek (peek_unless token s a p))) (λ e _. none_keeps e s.stream.items refl k)
      s.position 0 pending.Nothing s.opening 0 (λ there. peek_from_keeps p (nothing_pends s.opening there))

  abandons_keep : Faces s → Keeps s (answering Abandon (abandons token s))
  abandons_keep k =
      pends-either (λ a. Keeps s (answering Abandon (abandon_unless token s a))) (λ e _. untouched s k [] (Abandon (Err (refused.Kept e token))) refl refl refl)
      pending.Opening s.opening
      (λ there. let one = opening_pends s.opening there in
      record { bytes = ap (λ x. x ++ bytes_of s.stream) one; count = omega arith; taken = omega (arith, ap length one); faced = tt })

-- read_bang_element: after a piece the position moves, before it is known which piece it stays

-- the position moves where this ends the piece
abbrev MovedBy : Result (Unit {0}) SyntaxError → Type 0
MovedBy (Ok u) = Unit {0}
MovedBy (Err e) = (w t : ℕ) → stays (refused_told (refusal (Syntax e) w t)) ≡ false

abbrev VerdictMoves : Verdict → Type 0
VerdictMoves v = (content : List ℕ) → MovedBy (at_end (verdict_cut v) content)

later_moves : (v : Verdict) → VerdictMoves v → VerdictMoves (later 1 v)
later_moves (stop k) h = h
later_moves (unclosed due) h = h

machine_moves : {S : Type 0} (step : S → ℕ → Move S) (due : S → List ℕ → SyntaxError) → ((s : S) (content : List ℕ) → MovedBy (Err (due s content)))
    → (s : S) (xs : List ℕ) → VerdictMoves (machine step due s xs)
machine_moves {S} step due h s [] = h s
machine_moves {S} step due h s (x ∷ xs) = go (λ t. machine_moves step due h t xs) (step s x)
  where
    go : ((t : S) → VerdictMoves (machine step due t xs)) → (m : Move S)
        → VerdictMoves (elim m as (λ w. Verdict) [ halt ↦ stop 0 | goes t ↦ later 1 (machine step due t xs) ])
    go rest halt = λ _. tt
    go rest (goes t) = later_moves (machine step due t xs) (rest t)

bang_moves : (b : BangType) (xs : List ℕ) → VerdictMoves (bang b xs)
bang_moves (scanner.CData s) = machine_moves doubled_step cdata_due (λ _ _ _ _. refl) s
bang_moves (scanner.Comment s) = machine_moves bang_comment_step bang_comment_due (λ _ _ _ _. refl) s
bang_moves (scanner.DocType s) = machine_moves dtd_step dtd_due (λ _ _ _ _. refl) s

-- there is a third byte, or it comes next
abbrev Third : List ℕ → List Item → Type 0
Third so_far [] = 3 ≤ length so_far
Third so_far (wait ∷ is) = 3 ≤ length so_far
Third so_far (byte b ∷ is) = 2 ≤ length so_far

third : (so_far : List ℕ) (is : List Item) → 3 ≤ length so_far → Third so_far is
third so_far [] n = n
third so_far (wait ∷ is) n = n
third so_far (byte b ∷ is) n = omega arith

module _ (T : Type 0) (k : BangKind) where
  abbrev bang_answer : List ℕ → Result (Result (Unit {0}) SyntaxError) Error → Result (BangKind × ℕ) (Refused T)
  bang_answer bs e = spending (length bs) (with_kind k (chain e (with_piece bs)))

  abbrev Moves : Gathered (Result (Unit {0}) SyntaxError) → Type 0
  Moves g = stays (bang_told (bang_answer g.bytes g.ending)) ≡ false

  ended_moves : (bs : List ℕ) (is : List Item) (r : Result (Unit {0}) SyntaxError) → MovedBy r → Moves (gathered bs is (Ok r))
  ended_moves bs is (Ok u) h = go (judged bs)
    where
      go : (r : Result (Unit {0}) Utf8Error) → stays (bang_told {T = T} (spending (length bs) (with_kind k (checked r (length bs))))) ≡ false
      go (Ok u) = refl
      go (Err e) = refl
  ended_moves bs is (Err e) h = h (length bs) (length bs - 1)

  gather_moves : (c : Cut (Result (Unit {0}) SyntaxError)) → ((content : List ℕ) → MovedBy (at_end c content))
      → (size : ℕ) (so_far : List ℕ) (p : ℕ) (is : List Item) (t : Tail) → Third so_far is → Moves (gather c size so_far p is t)
  gather_moves c h size so_far p [] end n = ended_moves so_far [] (at_end c so_far) (h so_far)
  gather_moves c h size so_far p [] (fault f) n = ne_eqb (length so_far) 2 (λ e. omega arith)
  gather_moves c h size so_far zero (wait ∷ is) t n = ne_eqb (length so_far) 2 (λ e. omega arith)
  gather_moves c h size so_far (suc p) (wait ∷ is) t n = gather_moves c h size so_far p is t (third so_far is n)
  gather_moves c h size so_far p (byte b ∷ is) t n =
      let kept = so_far ++ b ∷ [] in
      let g = gather (next c) size kept p is t in
      on_byte-both (λ x _. Moves x) so_far b is is g g c (ltb (length so_far) size) (ended_moves so_far (byte b ∷ is) (at_end c []) (h []))
      (ended_moves kept is (at_end c []) (h [])) refl
      (gather_moves (next c) (λ content. subst MovedBy (sym (next_end c content)) (h content)) size kept p is t
      (third kept is (omega (arith, length-append so_far (b ∷ [])))))

module _ {T : Type 0} (s : State) (token : T) (buf : List ℕ) (o : s.opening ≡ Some 33) where
  one_opened : opened s ≡ 1
  one_opened = ap (λ x. length (open_bytes x)) o

  stuck_keeps : (e : Error) (is : List Item) → stays (refused_told (refusal e 2 1)) ≡ true → 60 ∷ 33 ∷ bytes_in is ≡ standing s
      → Keeps s (answering Bang (bang_stuck token s buf bang_prefix 1 e is))
  stuck_keeps e is y h =
      let a : Answer T = Bang (bang_stuck token s buf bang_prefix 1 e is).answer in
      wrote s buf a bang_prefix 1 is s.position refl (omega (arith, one_opened)) refl (omega (arith, ap {B = ℕ} (λ b. cond b 2 0) y)) h

  named_keeps : (o : Option BangType) (b : ℕ) (is : List Item) (p : ℕ) → 60 ∷ 33 ∷ b ∷ bytes_in is ≡ standing s
      → Keeps s (answering Bang (bang_named token s buf (ok_or o (Syntax InvalidBangMarkup)) (byte b ∷ is) p))
  named_keeps None b is p h = stuck_keeps (Syntax InvalidBangMarkup) (byte b ∷ is) refl h
  named_keeps (Some x) b is p h =
      let c = scan_cut (bang x) (b ∷ bytes_in is) in
      let g = gather c (length buf) bang_prefix p (byte b ∷ is) s.stream.tail in
      let a : Answer T = Bang (bang_answer T (kind_of x) g.bytes g.ending) in
      let none : lost_by a ≡ 0 =
      ap (λ b. cond b 2 0) (gather_moves T (kind_of x) c (bang_moves x (b ∷ bytes_in is)) (length buf) bang_prefix p (byte b ∷ is) s.stream.tail (omega arith)) in
      wrote s buf a g.bytes (length g.bytes - 1) g.left (s.position + length g.bytes)
      (scanned_counts g.bytes (λ r. spending {T = T} (length g.bytes) (with_kind (kind_of x) r)) (λ r. counts (bang_told r)) (λ _. refl) refl g.ending)
      (omega (arith, one_opened, gather_grows c (length buf) bang_prefix p (byte b ∷ is) s.stream.tail)) refl
      (omega arith) (gather_keeps c (length buf) bang_prefix p (byte b ∷ is) s.stream.tail ∙ h)

  -- behind `<!`
  bang_after_keeps : (p : ℕ) (is : List Item) → 60 ∷ 33 ∷ bytes_in is ≡ standing s → Keeps s (answering Bang (bang_after token s buf (await p is s.stream.tail)))
  bang_after_keeps p is h =
      let same : (bs : List ℕ) → bs ≡ bytes_in is → 60 ∷ 33 ∷ bs ≡ standing s = λ bs e. ap (λ x. 60 ∷ 33 ∷ x) e ∙ h in
      await-both (λ a _. Keeps s (answering Bang (bang_after token s buf a))) p is s.stream.tail
      (λ _ e. stuck_keeps (Syntax InvalidBangMarkup) [] refl (same [] e))
      (λ f _ e. stuck_keeps (Io f) [] refl (same [] e))
      (λ js _ e. stuck_keeps Patience js refl (same (bytes_in js) e))
      (λ b js q e. named_keeps (bang_type b) b js q (same (b ∷ bytes_in js) e))

  -- the byte peeked, a `!`, stands first
  bang_from_keeps : (p : ℕ) → Faces s → Keeps s (answering Bang (bang_from token s buf (await p s.stream.items s.stream.tail)))
  bang_from_keeps p k =
      let is = drop 1 s.stream.items in
      let first : s.stream.items ≡ byte 33 ∷ is = subst (λ x. StandsFirst x s.stream.items) o k in
      subst (λ x. Keeps s (answering Bang (bang_from token s buf (await p x s.stream.tail)))) (sym first)
      (bang_after_keeps p is (ap (λ x. 60 ∷ bytes_in x) (sym first) ∙ ap (λ x. open_bytes x ++ bytes_of s.stream) (sym o)))

module _ {T : Type 0} (s : State) (token : T) (buf : List ℕ) where
  bangs_keep : (p : ℕ) → Faces s → Keeps s (answering Bang (bangs token s buf p))
  bangs_keep p k =
      admitted-either (λ a. Keeps s (answering Bang (bang_unless token s buf a p)))
      (λ e y. untouched s k buf (Bang (Err (refused.Kept e token))) refl refl (ap (λ b. cond b 2 0) y)) s.position (length buf) pending.Bang s.opening 2
      (λ there. bang_from_keeps s token buf (bang-pends s.opening there) p k)

-- every call, and every history

module _ {T : Type 0} (token : T) where
  call_keeps : (s : State) (c : Call T) → Faces s → Keeps s (does token s c)
  call_keeps s (read_text buf p) =
      reads_keeps {T = T} s Text text_reading buf p (λ n. n) (λ _. refl) (λ _. refl) (λ _. refl) text-counts (λ _ _. omega arith) (λ there. ap open_bytes (sym (nothing_pends s.opening there)))
  call_keeps s (read_ref buf p) =
      reads_keeps {T = T} s Ref ref_reading buf p (λ n. n) (λ _. refl) (λ _. refl) (λ _. refl) ref-counts (λ _ _. omega arith) (λ there. ap open_bytes (sym (nothing_pends s.opening there)))
  call_keeps s (peek_one p) = peeks_keep s token p
  call_keeps s (read_with t m buf p) =
      reads_keeps s With (with_reading t m) buf p (λ n. n - 1) (λ _. refl) (λ _. refl) (λ _. refl)
      (λ bs. scanned_counts bs (spending (length bs)) (λ r. counts (with_told {T = T} r)) (λ _. refl) refl) (λ n h. omega arith) (opening_pends s.opening)
  call_keeps s (read_bang_element t buf p) = bangs_keep s t buf p
  call_keeps s (abandon t) = abandons_keep s t

  joined_more : (es : List (Event T)) (e : Event T) → joined es ++ given e ≡ joined (es ++ e ∷ [])
  joined_more [] e = sym (append-nil (given e))
  joined_more (d ∷ es) e = append_assoc (given d) (joined es) (given e) ∙ ap (λ x. given d ++ x) (joined_more es e)

  total_more : (n : Answer T → ℕ) (es : List (Event T)) (e : Event T) → total n es + n e.answer ≡ total n (es ++ e ∷ [])
  total_more n [] e = omega arith
  total_more n (d ∷ es) e = omega (arith, total_more n es e)

  history_keeps : {made : State} {es : List (Event T)} {s : State} → Made made → History token made es s → Kept made (joined es) (lost es) (told_taken es) s
  history_keeps {made} none fresh = record { bytes = refl; count = omega arith; taken = omega arith; faced = subst (λ o. StandsFirst o made.stream.items) (sym none) tt }
  history_keeps {made} none (more {es} {s} h c) =
      let o = does token s c in
      let e = event c o.answer o.buffer in
      let es' = es ++ e ∷ [] in
      let k = history_keeps none h in
      subst (λ x. Kept made x (lost es') (told_taken es') o.after) (joined_more es e)
      (subst (λ n. Kept made (joined es ++ given e) n (told_taken es') o.after) (total_more lost_by es e)
      (subst (λ n. Kept made (joined es ++ given e) (lost es + lost_by e.answer) n o.after) (total_more (λ a. (told a).taken) es e)
      (kept_on k (call_keeps s c k.faced))))

  pub report_whole : ReportWhole token
  report_whole made es s none h =
      let k = history_keeps none h in
      let whole = k.bytes ∙ ap (λ o. open_bytes o ++ bytes_of made.stream) none in
      let split : length (joined es) + (opened s + length (bytes_of s.stream)) ≡ length (bytes_of made.stream) =
      omega (arith, ap length whole, length-append (joined es) (standing s), length-append (open_bytes s.opening) (bytes_of s.stream)) in
      record { bytes = whole; count = omega (arith, k.count); answers = omega (arith, k.taken, ap (λ o. length (open_bytes o)) none); peeked = k.faced }

  -- whatever does as the model says continues every history
  pub continues : (s : State) (c : Call T) (a : Answer T) (s' : State) (buf' : List ℕ) → outcome a s' buf' ≡ does token s c → Continues token s (event c a buf') s'
  continues s c a s' buf' e made es none h =
      let P : Outcome (Answer T) → Type 0 = λ o.
      let es' = es ++ event c o.answer o.buffer ∷ [] in History token made es' o.after × Whole made es' o.after in
      subst P (sym e) (more h c, report_whole made _ _ none (more h c))
