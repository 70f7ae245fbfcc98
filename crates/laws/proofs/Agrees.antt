-- Two readers that are given the same calls agree; waits and patience do not matter where no call is worn out. Assumes nothing.
use Rattle.std.proofs.Common.{◌≡◌, ℕ, zero, suc, ◌+◌, Bool, true, false, cond, eqb, ltb, List, [], ◌∷◌, ◌++◌, map, length, Some, None, Ok, Err, Option, Result, sym, refl, ap, ◌∙◌}
use mathlib.Core.List.{map-append}
use Rattle.source.specs.Stream.{Item, byte, wait, Tail, end, fault, bytes_in, bytes_of}
use Rattle.source.proofs.Streams.{bytes_plain}
use Rattle.bang.specs.Bang.{bang}
use Rattle.bang.specs.declared.bang.BangType.{BangType}
use Rattle.model.specs.Told.{told}
use Rattle.model.specs.Cut.{Cut, at_end, scan_cut}
use Rattle.model.specs.Gather.{Gathered, gathered, next, gather}
use Rattle.model.specs.Call.{State, state, left_with, Outcome, outcome, pends, admitted, chain, over, spending, with_piece, Reading, unless_early, reads, text_reading, ref_reading, with_reading}
use Rattle.model.specs.Peek.{await, peek_none, peek_after, peek_from, peek_unless, peeks, abandon_unless, abandons}
use Rattle.model.specs.Bang.{bang_of, bang_prefix, with_kind, kind_of, bang_named, bang_after, bang_from, bang_unless, bangs}
use Rattle.model.specs.History.{Call, read_text, read_ref, peek_one, read_with, read_bang_element, abandon, Event, event, answering, does}
use Rattle.model.specs.Agree.{Alike, Same, read_texts, read_refs, peek_ones, read_withs, read_bang_elements, abandons as both_abandon, Rested, gave, BothRest, OneCall, Twins, fresh, more, EqualAgree, WaitsApart}
use Rattle.model.specs.declared.ending.Pending.TheVariants as pending
use Rattle.model.specs.declared.answer.Answer.{Answer}
use Rattle.model.specs.declared.answer.Answer.TheVariants.{Text, Ref, Peek, With, Bang, Abandon}
use Rattle.errors.specs.declared.Error.{Error}
use Rattle.errors.specs.declared.Error.TheVariants.{Patience, Io, FirstByte, BufferFull}
use Rattle.laws.proofs.Gathers.{on_byte-both, bytes_only, await-both}

-- the same reader over a source that never waits
abbrev without_waits : State → State
without_waits s = left_with s (bytes_only s.stream.items) s.position s.opening

alike_bytes : (s t : State) → Alike s t → without_waits s ≡ without_waits t
alike_bytes s t a =
    ap (λ bs. left_with s (map byte bs) s.position s.opening) a.bytes
    ∙ ap (λ u. state (record { items = bytes_only t.stream.items; tail = u }) s.position s.opening) a.tail
    ∙ ap (λ p. left_with t (bytes_only t.stream.items) p s.opening) a.position
    ∙ ap (λ o. left_with t (bytes_only t.stream.items) t.position o) a.opening

bytes_alike : (s t : State) → without_waits s ≡ without_waits t → Alike s t
bytes_alike s t e = record {
  bytes = sym (bytes_plain (bytes_of s.stream)) ∙ ap (λ x. bytes_of x.stream) e ∙ bytes_plain (bytes_of t.stream);
  tail = ap (λ x. x.stream.tail) e;
  position = ap (λ x. x.position) e;
  opening = ap (λ x. x.opening) e;
}

bytes_only_twice : (is : List Item) → bytes_only (bytes_only is) ≡ bytes_only is
bytes_only_twice is = ap (map byte) (bytes_plain (bytes_in is))

module _ {E : Type 0} where
  abbrev gathered_bytes : Gathered E → Gathered E
  gathered_bytes g = gathered g.bytes (bytes_only g.left) g.ending

  -- a gathering that is not worn out does as if the source never waited
  gather_bytes : (c : Cut E) (size : ℕ) (so_far : List ℕ) (p : ℕ) (is : List Item) (t : Tail) → ((gather c size so_far p is t).ending ≡ Err Patience → ⊥)
      → gathered_bytes (gather c size so_far p is t) ≡ gathered_bytes (gather c size so_far 0 (bytes_only is) t)
  gather_bytes c size so_far p [] end r = refl
  gather_bytes c size so_far p [] (fault f) r = refl
  gather_bytes c size so_far zero (wait ∷ is) t r = absurd (r refl)
  gather_bytes c size so_far (suc p) (wait ∷ is) t r = gather_bytes c size so_far p is t r
  gather_bytes c size so_far p (byte b ∷ is) t r =
      let kept = so_far ++ b ∷ [] in
      let left : (bs : List ℕ) (e : Result E Error) → gathered bs (byte b ∷ bytes_only is) e ≡ gathered bs (byte b ∷ bytes_only (bytes_only is)) e =
      λ bs e. ap (λ x. gathered bs (byte b ∷ x) e) (sym (bytes_only_twice is)) in
      on_byte-both (λ g h. (g.ending ≡ Err Patience → ⊥) → gathered_bytes g ≡ gathered_bytes h) so_far b is (bytes_only is)
      (gather (next c) size kept p is t) (gather (next c) size kept 0 (bytes_only is) t) c (ltb (length so_far) size)
      (λ _. left so_far (Ok (at_end c [])))
      (λ _. ap (λ x. gathered kept x (Ok (at_end c []))) (sym (bytes_only_twice is)))
      (λ _. left so_far (Err BufferFull))
      (gather_bytes (next c) size kept p is t) r

module _ {T : Type 0} where
  abbrev outcome_bytes : Outcome (Answer T) → Outcome (Answer T)
  outcome_bytes o = outcome o.answer (without_waits o.after) o.buffer

  -- the two do the same but for waits, if the first is not worn out
  abbrev Agrees : Outcome (Answer T) → Outcome (Answer T) → Type 0
  Agrees o q = Rested o.answer → outcome_bytes o ≡ outcome_bytes q

  -- a piece that is gathered, whatever it is answered with
  module _ {E : Type 0} (answer : List ℕ → Result E Error → Answer T) (worn : (bs : List ℕ) → (told (answer bs (Err Patience))).number ≡ 6) (s : State) (buf : List ℕ) where
    abbrev pieced : State → Gathered E → Outcome (Answer T)
    pieced u g = outcome (answer g.bytes g.ending) (left_with u g.left (s.position + length g.bytes) None) (over g.bytes buf)

    piece_agrees : (cut : List ℕ → Cut E) (prefix : List ℕ) (p : ℕ) (is : List Item)
        → Agrees (pieced s (gather (cut (bytes_in is)) (length buf) prefix p is s.stream.tail))
        (pieced (without_waits s) (gather (cut (bytes_in (bytes_only is))) (length buf) prefix 0 (bytes_only is) s.stream.tail))
    piece_agrees cut prefix p is r =
        let g = gather (cut (bytes_in is)) (length buf) prefix p is s.stream.tail in
        ap (pieced s) (gather_bytes (cut (bytes_in is)) (length buf) prefix p is s.stream.tail
        (λ e. r (ap (λ x. (told (answer g.bytes x)).number) e ∙ worn g.bytes)))
        ∙ ap (λ bs. outcome_bytes (pieced s (gather (cut bs) (length buf) prefix 0 (bytes_only is) s.stream.tail))) (sym (bytes_plain (bytes_in is)))

  module _ (s : State) where
    -- an answer that leaves the same bytes
    answer_agrees : (a : Answer T) (is : List Item) (q : ℕ) (o : Option ℕ) (buf : List ℕ)
        → Agrees (outcome a (left_with s is q o) buf) (outcome a (left_with s (bytes_only is) q o) buf)
    answer_agrees a is q o buf _ = ap (λ x. outcome a (left_with s x q o) buf) (sym (bytes_only_twice is))

    -- read_text, read_ref and read_with
    reads_agree : {E A : Type 0} (f : A → Answer T) (r : Reading E A) (buf : List ℕ) (p : ℕ) → ((bs : List ℕ) → (told (f (r.answer bs (Err Patience)))).number ≡ 6)
        → Agrees (answering f (reads r s buf p)) (answering f (reads r (without_waits s) buf 0))
    reads_agree f r buf p worn = unless (admitted s.position (length buf) r.wanted s.opening r.least)
      where
        unless : (a : Result (Unit {0}) Error) → Agrees (answering f (unless_early r s buf p a)) (answering f (unless_early r (without_waits s) buf 0 a))
        unless (Err e) = answer_agrees (f (r.early e)) s.stream.items s.position s.opening buf
        unless (Ok u) = piece_agrees (λ bs e. f (r.answer bs e)) worn s buf r.cut r.prefix p s.stream.items

    module _ (token : T) where
      -- nothing was taken
      none_agrees : (e : Error) (is : List Item) → Agrees (answering Peek (peek_none token s e is)) (answering Peek (peek_none token (without_waits s) e (bytes_only is)))
      none_agrees e is = answer_agrees (Peek (peek_none token s e is).answer) is s.position s.opening []

      peek_after_agrees : (p : ℕ) (is : List Item)
          → Agrees (answering Peek (peek_after token s (await p is s.stream.tail))) (answering Peek (peek_after token (without_waits s) (await 0 (bytes_only is) s.stream.tail)))
      peek_after_agrees p is =
          await-both (λ a b. Agrees (answering Peek (peek_after token s a)) (answering Peek (peek_after token (without_waits s) b))) p is s.stream.tail
          (λ _ _ _. refl) (λ _ _ _ _. refl) (λ _ _ _ r. absurd (r refl))
          (λ b js _ _. answer_agrees (Peek (Ok (Some (b, token)))) (byte b ∷ js) s.position (Some b) [])

      first_agrees : (b : ℕ) (is : List Item) (p : ℕ) (y : Bool)
          → Agrees (answering Peek (cond y (peek_after token s (await p is s.stream.tail)) (peek_none token s FirstByte (byte b ∷ is))))
          (answering Peek (cond y (peek_after token (without_waits s) (await 0 (bytes_only is) s.stream.tail)) (peek_none token (without_waits s) FirstByte (byte b ∷ bytes_only is))))
      first_agrees b is p true = peek_after_agrees p is
      first_agrees b is p false = none_agrees FirstByte (byte b ∷ is)

      peeks_agree : (p : ℕ) → Agrees (answering Peek (peeks token s p)) (answering Peek (peeks token (without_waits s) 0))
      peeks_agree p = unless (admitted s.position 0 pending.Nothing s.opening 0)
        where
          unless : (a : Result (Unit {0}) Error) → Agrees (answering Peek (peek_unless token s a p)) (answering Peek (peek_unless token (without_waits s) a 0))
          unless (Err e) = none_agrees e s.stream.items
          unless (Ok u) =
              await-both (λ a b. Agrees (answering Peek (peek_from token s a)) (answering Peek (peek_from token (without_waits s) b))) p s.stream.items s.stream.tail
              (λ _ _. none_agrees FirstByte []) (λ f _ _. none_agrees (Io f) []) (λ _ _ _ r. absurd (r refl)) (λ b js q _. first_agrees b js q (eqb b 60))

      abandons_agree : Agrees (answering Abandon (abandons token s)) (answering Abandon (abandons token (without_waits s)))
      abandons_agree = unless (pends pending.Opening s.opening)
        where
          unless : (a : Result (Unit {0}) Error) → Agrees (answering Abandon (abandon_unless token s a)) (answering Abandon (abandon_unless token (without_waits s) a))
          unless (Err e) = answer_agrees (Abandon (abandon_unless token s (Err e)).answer) s.stream.items s.position s.opening []
          unless (Ok u) = answer_agrees (Abandon (Ok tt)) s.stream.items s.position None []

      module _ (buf : List ℕ) where
        named_agrees : (r : Result BangType Error) (b : ℕ) (is : List Item) (p : ℕ)
            → Agrees (answering Bang (bang_named token s buf r (byte b ∷ is) p)) (answering Bang (bang_named token (without_waits s) buf r (byte b ∷ bytes_only is) 0))
        named_agrees (Err e) b is p =
            answer_agrees (Bang (bang_named token s buf (Err e) (byte b ∷ is) p).answer) (byte b ∷ is) s.position None (over bang_prefix buf)
        named_agrees (Ok x) b is p =
            piece_agrees (λ bs e. Bang (spending (length bs) (with_kind (kind_of x) (chain e (with_piece bs))))) (λ _. refl) s buf (scan_cut (bang x)) bang_prefix p (byte b ∷ is)

        bang_after_agrees : (p : ℕ) (is : List Item)
            → Agrees (answering Bang (bang_after token s buf (await p is s.stream.tail))) (answering Bang (bang_after token (without_waits s) buf (await 0 (bytes_only is) s.stream.tail)))
        bang_after_agrees p is =
            await-both (λ a b. Agrees (answering Bang (bang_after token s buf a)) (answering Bang (bang_after token (without_waits s) buf b))) p is s.stream.tail
            (λ _ _ _. refl) (λ _ _ _ _. refl) (λ _ _ _ r. absurd (r refl)) (λ b js q _. named_agrees (bang_of (Some b)) b js q)

        bangs_agree : (p : ℕ) → Agrees (answering Bang (bangs token s buf p)) (answering Bang (bangs token (without_waits s) buf 0))
        bangs_agree p = unless (admitted s.position (length buf) pending.Bang s.opening 2)
          where
            unless : (a : Result (Unit {0}) Error) → Agrees (answering Bang (bang_unless token s buf a p)) (answering Bang (bang_unless token (without_waits s) buf a 0))
            unless (Err e) = answer_agrees (Bang (bang_unless token s buf (Err e) p).answer) s.stream.items s.position s.opening buf
            unless (Ok u) =
                await-both (λ a b. Agrees (answering Bang (bang_from token s buf a)) (answering Bang (bang_from token (without_waits s) buf b))) p s.stream.items s.stream.tail
                (λ _ _ _. refl) (λ _ _ _ _. refl) (λ _ _ _ r. absurd (r refl)) (λ _ js q _. bang_after_agrees q js)

-- the same call without patience
abbrev without_patience : {T : Type 0} → Call T → Call T
without_patience (read_text buf p) = read_text buf 0
without_patience (read_ref buf p) = read_ref buf 0
without_patience (peek_one p) = peek_one 0
without_patience (read_with t m buf p) = read_with t m buf 0
without_patience (read_bang_element t buf p) = read_bang_element t buf 0
without_patience (abandon t) = abandon t

same_but_patience : {T : Type 0} {c d : Call T} → Same c d → without_patience c ≡ without_patience d
same_but_patience (read_texts buf p q) = refl
same_but_patience (read_refs buf p q) = refl
same_but_patience (peek_ones p q) = refl
same_but_patience (read_withs t m buf p q) = refl
same_but_patience (read_bang_elements t buf p q) = refl
same_but_patience (both_abandon t) = refl

module _ {T : Type 0} (token : T) where
  -- a call that is not worn out does as if the source never waited
  call_bytes : (s : State) (c : Call T) → Agrees (does token s c) (does token (without_waits s) (without_patience c))
  call_bytes s (read_text buf p) = reads_agree s Text text_reading buf p (λ _. refl)
  call_bytes s (read_ref buf p) = reads_agree s Ref ref_reading buf p (λ _. refl)
  call_bytes s (peek_one p) = peeks_agree s token p
  call_bytes s (read_with t m buf p) = reads_agree s With (with_reading t m) buf p (λ _. refl)
  call_bytes s (read_bang_element t buf p) = bangs_agree s t buf p
  call_bytes s (abandon t) = abandons_agree s t

  -- two readers that are the same but for waits, and two calls that are the same but for patience
  pub call_agrees : {s t : State} {c d : Call T} → Alike s t → BothRest token s t c d
      → ((does token s c).answer ≡ (does token t d).answer) × ((does token s c).buffer ≡ (does token t d).buffer) × Alike (does token s c).after (does token t d).after
  call_agrees {s} {t} {c} {d} a b =
      let e : outcome_bytes (does token s c) ≡ outcome_bytes (does token t d) =
      call_bytes s c b.one
      ∙ ap (λ x. outcome_bytes (does token x (without_patience c))) (alike_bytes s t a)
      ∙ ap (λ x. outcome_bytes (does token (without_waits t) x)) (same_but_patience b.same)
      ∙ sym (call_bytes t d b.other) in
      (ap (λ o. o.answer) e, ap (λ o. o.buffer) e, bytes_alike (does token s c).after (does token t d).after (ap (λ o. o.after) e))

  pub equal_agree : EqualAgree token
  equal_agree s₀ t₀ e = go
    where
      go : (es fs : List (Event T)) (s t : State) → Twins token (OneCall token) s₀ t₀ es s fs t → (es ≡ fs) × (s ≡ t)
      go es fs s t fresh = (refl, e)
      go es fs s t (more {es = es₁} {fs = fs₁} {s = s₁} {t = t₁} w c d same) =
          let h = go es₁ fs₁ s₁ t₁ w in (
            ap (λ x. x ++ event c (does token s₁ c).answer (does token s₁ c).buffer ∷ []) h.0
                ∙ ap (λ x. fs₁ ++ event c (does token x c).answer (does token x c).buffer ∷ []) h.1
                ∙ ap (λ x. fs₁ ++ event x (does token t₁ x).answer (does token t₁ x).buffer ∷ []) same,
            ap (λ x. (does token x c).after) h.1 ∙ ap (λ x. (does token t₁ x).after) same,
          )

  pub waits_apart : WaitsApart token
  waits_apart s₀ t₀ a = go
    where
      go : (es fs : List (Event T)) (s t : State) → Twins token (BothRest token) s₀ t₀ es s fs t → (map gave es ≡ map gave fs) × Alike s t
      go es fs s t fresh = (refl, a)
      go es fs s t (more {es = es₁} {fs = fs₁} {s = s₁} {t = t₁} w c d both) =
          let h = go es₁ fs₁ s₁ t₁ w in
          let k = call_agrees h.1 both in (
            map-append gave es₁ _
                ∙ ap (λ x. x ++ record { answer = (does token s₁ c).answer; buffer = (does token s₁ c).buffer } ∷ []) h.0
                ∙ ap (λ x. map gave fs₁ ++ record { answer = x; buffer = (does token s₁ c).buffer } ∷ []) k.0
                ∙ ap (λ x. map gave fs₁ ++ record { answer = (does token t₁ d).answer; buffer = x } ∷ []) k.1
                ∙ sym (map-append gave fs₁ _),
            k.2,
          )
