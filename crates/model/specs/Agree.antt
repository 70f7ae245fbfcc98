-- Two readers that are given the same calls.
use Rattle.std.specs.Prelude.{◌≡◌, ℕ, List, [], ◌∷◌, ◌++◌, map}
use Rattle.source.specs.Stream.{bytes_of}
use Rattle.parser.specs.Scan.{Meaning}
use Rattle.model.specs.Told.{told}
use Rattle.model.specs.Call.{State}
use Rattle.model.specs.History.{Call, read_text, read_ref, peek_one, read_with, read_bang_element, abandon, Event, event, does}
use Rattle.model.specs.declared.answer.Answer.{Answer}

-- the same but for waits
pub record Alike (s t : State) : Type 0 where
  pub bytes : bytes_of s.stream ≡ bytes_of t.stream
  pub tail : s.stream.tail ≡ t.stream.tail
  pub position : s.position ≡ t.position
  pub opening : s.opening ≡ t.opening

-- the same calls but for patience
pub data Same {T : Type 0} : Call T → Call T → Type 0 where
  read_texts : (buf : List ℕ) (p q : ℕ) → Same (read_text buf p) (read_text buf q)
  read_refs : (buf : List ℕ) (p q : ℕ) → Same (read_ref buf p) (read_ref buf q)
  peek_ones : (p q : ℕ) → Same (peek_one p) (peek_one q)
  read_withs : (t : T) (m : Meaning) (buf : List ℕ) (p q : ℕ) → Same (read_with t m buf p) (read_with t m buf q)
  read_bang_elements : (t : T) (buf : List ℕ) (p q : ℕ) → Same (read_bang_element t buf p) (read_bang_element t buf q)
  abandons : (t : T) → Same (abandon t) (abandon t)

-- the patience was not worn out
abbrev pub Rested : {T : Type 0} → Answer T → Type 0
Rested a = (told a).number ≡ 6 → ⊥

-- what a call gave
pub record Gave (T : Type 0) : Type 0 where
  pub answer : Answer T
  pub buffer : List ℕ

abbrev pub gave : {T : Type 0} → Event T → Gave T
gave e = record { answer = e.answer; buffer = e.buffer }

module _ {T : Type 0} (token : T) where
  -- two calls that both readers rest at
  pub record BothRest (s t : State) (c d : Call T) : Type 0 where
    pub same : Same c d
    pub one : Rested (does token s c).answer
    pub other : Rested (does token t d).answer

  -- one call for both
  abbrev pub OneCall : State → State → Call T → Call T → Type 0
  OneCall s t c d = c ≡ d

  -- two readers side by side, each with its events
  pub data Twins (Pair : State → State → Call T → Call T → Type 0) (s₀ t₀ : State) : List (Event T) → State → List (Event T) → State → Type 0 where
    fresh : Twins Pair s₀ t₀ [] s₀ [] t₀
    more : {es fs : List (Event T)} {s t : State} → Twins Pair s₀ t₀ es s fs t → (c d : Call T) → Pair s t c d
        → Twins Pair s₀ t₀ (es ++ event c (does token s c).answer (does token s c).buffer ∷ []) (does token s c).after
        (fs ++ event d (does token t d).answer (does token t d).buffer ∷ []) (does token t d).after

  -- over equal streams, from one start: the same answers, buffers and states, call by call
  abbrev pub EqualAgree : Type 0
  EqualAgree =
      (s₀ t₀ : State) → s₀ ≡ t₀ → (es fs : List (Event T)) (s t : State) → Twins OneCall s₀ t₀ es s fs t → (es ≡ fs) × (s ≡ t)

  -- waits and patience may differ as long as no call of either answers that its patience is worn out
  abbrev pub WaitsApart : Type 0
  WaitsApart =
      (s₀ t₀ : State) → Alike s₀ t₀ → (es fs : List (Event T)) (s t : State) → Twins BothRest s₀ t₀ es s fs t
      → (map gave es ≡ map gave fs) × Alike s t
