-- Calls one after another: a history is the calls made since the making, with their answers, and the reader that they led to.
use Rattle.std.specs.Prelude.{◌≡◌, ℕ, ◌+◌, ◌-◌, Bool, if◌then◌else◌, ◌&&◌, ◌||◌, List, [], ◌∷◌, ◌++◌, length, take, drop, Some, None, Ok, Err, Option, ◌==◌}
use Rattle.source.specs.Stream.{Item, byte, bytes_of}
use Rattle.parser.specs.Scan.{Meaning}
use Rattle.model.specs.Told.{told}
use Rattle.model.specs.Call.{State, Outcome, outcome, reads, text_reading, ref_reading, with_reading}
use Rattle.model.specs.Peek.{peeks, abandons}
use Rattle.model.specs.Bang.{bangs}
use Rattle.model.specs.declared.answer.Told.{Told}
use Rattle.model.specs.declared.answer.Answer.{Answer}
use Rattle.model.specs.declared.answer.Answer.TheVariants.{Text, Ref, Peek, With, Bang, Abandon}

-- a call, with the token, the scanner's meaning, the buffer and the patience that it is given
pub data Call (T : Type 0) : Type 0 where
  read_text : List ℕ → ℕ → Call T
  read_ref : List ℕ → ℕ → Call T
  peek_one : ℕ → Call T
  read_with : T → Meaning → List ℕ → ℕ → Call T
  read_bang_element : T → List ℕ → ℕ → Call T
  abandon : T → Call T

-- a call that was made: its answer, and the buffer after it
pub record Event (T : Type 0) : Type 0 where
  pub call : Call T
  pub answer : Answer T
  pub buffer : List ℕ

abbrev pub event : {T : Type 0} → Call T → Answer T → List ℕ → Event T
event c a buf = record { call = c; answer = a; buffer = buf }

abbrev pub answering : {A B : Type 0} → (A → B) → Outcome A → Outcome B
answering f o = outcome (f o.answer) o.after o.buffer

-- the `<` of an opening that is not written: taken by a peek that gives no token, or abandoned
abbrev pub unwritten : {T : Type 0} → Answer T → List ℕ
unwritten (Text r) = []
unwritten (Ref r) = []
unwritten (Peek (Ok (Some (b, token)))) = []
unwritten (Peek (Ok None)) = 60 ∷ []
unwritten (Peek (Err r)) = take r.taken (60 ∷ [])
unwritten (With r) = []
unwritten (Bang r) = []
unwritten (Abandon (Ok u)) = 60 ∷ []
unwritten (Abandon (Err r)) = []

-- an answer of read_bang_element after which the position stays: number 9, or 6 or 7 with 2 bytes written
abbrev pub stays : Told → Bool
stays a = a.number == 9 || ((a.number == 6 || a.number == 7) && a.written == 2)

-- the bytes that the position leaves out
abbrev pub lost_by : {T : Type 0} → Answer T → ℕ
lost_by (Text r) = 0
lost_by (Ref r) = 0
lost_by (Peek (Ok (Some (b, token)))) = 0
lost_by (Peek (Ok None)) = 1
lost_by (Peek (Err r)) = r.taken
lost_by (With r) = 0
lost_by (Bang r) = if stays (told (Bang r)) then 2 else 0
lost_by (Abandon (Ok u)) = 1
lost_by (Abandon (Err r)) = 0

module _ {T : Type 0} where
  -- what an event adds to the bytes given out: the front of the buffer as far as it was written, or a `<` that was not
  abbrev pub given : Event T → List ℕ
  given e = take (told e.answer).written e.buffer ++ unwritten e.answer

  abbrev pub joined : List (Event T) → List ℕ
  joined [] = []
  joined (e ∷ es) = given e ++ joined es

  -- what the answers count to
  abbrev pub total : (Answer T → ℕ) → List (Event T) → ℕ
  total n [] = 0
  total n (e ∷ es) = n e.answer + total n es

  abbrev pub lost : List (Event T) → ℕ
  lost = total lost_by

  -- the bytes that the answers tell as taken
  abbrev pub told_taken : List (Event T) → ℕ
  told_taken = total (λ a. (told a).taken)

-- the `<` of a pending opening
abbrev pub open_bytes : Option ℕ → List ℕ
open_bytes None = []
open_bytes (Some b) = 60 ∷ []

-- the byte peeked behind a pending opening stands first in the source
abbrev pub StandsFirst : Option ℕ → List Item → Type 0
StandsFirst None is = Unit {0}
StandsFirst (Some b) is = is ≡ byte b ∷ drop 1 is

-- the bytes gone from the source since the making
abbrev pub taken : State → State → ℕ
taken made s = length (bytes_of made.stream) - length (bytes_of s.stream)

-- a making: nothing is pending
abbrev pub Made : State → Type 0
Made s = s.opening ≡ None

-- the report comes out whole
pub record Whole {T : Type 0} (made : State) (es : List (Event T)) (s : State) : Type 0 where
  -- what was given out, the pending `<`, and what is left are the bytes at the making
  pub bytes : joined es ++ (open_bytes s.opening ++ bytes_of s.stream) ≡ bytes_of made.stream
  -- taken = position - start + open + lost
  pub count : taken made s + made.position ≡ s.position + length (open_bytes s.opening) + lost es
  -- what the answers tell as taken is what is gone
  pub answers : told_taken es ≡ taken made s
  -- behind a pending `<` stands the byte that was peeked
  pub peeked : StandsFirst s.opening s.stream.items

module _ {T : Type 0} (token : T) where
  -- what a call does to a reader
  abbrev pub does : State → Call T → Outcome (Answer T)
  does s (read_text buf p) = answering Text (reads text_reading s buf p)
  does s (read_ref buf p) = answering Ref (reads ref_reading s buf p)
  does s (peek_one p) = answering Peek (peeks token s p)
  does s (read_with t m buf p) = answering With (reads (with_reading t m) s buf p)
  does s (read_bang_element t buf p) = answering Bang (bangs t s buf p)
  does s (abandon t) = answering Abandon (abandons t s)

  -- a reader made in the state `made` came, by these events, to a state
  pub data History (made : State) : List (Event T) → State → Type 0 where
    fresh : History made [] made
    more : {es : List (Event T)} {s : State} → History made es s → (c : Call T)
        → History made (es ++ event c (does s c).answer (does s c).buffer ∷ []) (does s c).after

  -- for every history, the report comes out whole
  abbrev pub ReportWhole : Type 0
  ReportWhole = (made : State) (es : List (Event T)) (s : State) → Made made → History made es s → Whole made es s

  -- whatever history led to s, with this event it leads to s', and the report comes out whole there
  abbrev pub Continues : State → Event T → State → Type 0
  Continues s e s' =
      (made : State) (es : List (Event T)) → Made made → History made es s
      → History made (es ++ e ∷ []) s' × Whole made (es ++ e ∷ []) s'
