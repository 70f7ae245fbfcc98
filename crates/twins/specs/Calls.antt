-- The calls of a program as the model has them, and when two of them are the same.
use Rattle.std.specs.Prelude.{ℕ, ◌≡◌, Bool, true, false, cond, List}
use Rattle.parser.specs.Scan.{Meaning}
use Rattle.model.specs.Agree.{Alike}
use Rattle.model.specs.Call.{State, Outcome, outcome}
use Rattle.model.specs.History.{Call as ModelCall, read_text, read_ref, peek_one, read_with, read_bang_element, abandon, does}
use Rattle.model.specs.declared.answer.Answer.{Answer}
use Rattle.reader.specs.State.{the_token}
use Rattle.reader.specs.Token.{OpeningToken}
use Rattle.twins.specs.declared.call.Call.{Call}
use Rattle.twins.specs.declared.call.Call.TheVariants.{ReadText, ReadRef, PeekOne, ReadWith, ReadBangElement, Abandon}

-- whether a call takes a buffer
abbrev pub buffered : {P : Type 0} → Call P → Bool
buffered ReadText = true
buffered ReadRef = true
buffered PeekOne = false
buffered (ReadWith token parser) = true
buffered (ReadBangElement token) = true
buffered (Abandon token) = false

-- `scan` says what a scanner means
module _ {P : Type 0} (scan : P → Meaning) where
  abbrev pub call_of : Call P → List ℕ → ℕ → ModelCall OpeningToken
  call_of ReadText buf p = read_text buf p
  call_of ReadRef buf p = read_ref buf p
  call_of PeekOne buf p = peek_one p
  call_of (ReadWith token parser) buf p = read_with token (scan parser) buf p
  call_of (ReadBangElement token) buf p = read_bang_element token buf p
  call_of (Abandon token) buf p = abandon token

  -- what a call does; one that takes no buffer leaves it as it is
  abbrev pub performs : State → Call P → List ℕ → ℕ → Outcome (Answer OpeningToken)
  performs s c buf p =
      let o = does the_token s (call_of c buf p) in outcome o.answer o.after (cond (buffered c) o.buffer buf)

-- the same call, with scanners that find the same in every run
pub data SameCall {P Q : Type 0} (scan : P → Meaning) (other : Q → Meaning) : Call P → Call Q → Type 0 where
  both_read_text : SameCall scan other ReadText ReadText
  both_read_ref : SameCall scan other ReadRef ReadRef
  both_peek_one : SameCall scan other PeekOne PeekOne
  both_read_with : (t u : OpeningToken) (p : P) (q : Q) → ((xs : List ℕ) → scan p xs ≡ other q xs) → SameCall scan other (ReadWith t p) (ReadWith u q)
  both_read_bang_element : (t u : OpeningToken) → SameCall scan other (ReadBangElement t) (ReadBangElement u)
  both_abandon : (t u : OpeningToken) → SameCall scan other (Abandon t) (Abandon u)

-- the same but for waits
pub record AlikeOutcomes (o q : Outcome (Answer OpeningToken)) : Type 0 where
  pub answer : o.answer ≡ q.answer
  pub buffer : o.buffer ≡ q.buffer
  pub after : Alike o.after q.after
