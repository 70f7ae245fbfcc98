-- What a reply tells, and which call follows it.
use Rattle.std.specs.Prelude.{ℕ, cond, Some, None, Ok, Err, Option, Result, ◌==◌}
use Rattle.model.specs.Told as model
use Rattle.model.specs.declared.answer.Answer.{Answer}
use Rattle.model.specs.declared.answer.Answer.TheVariants as answer
use Rattle.model.specs.declared.answer.ReadText.{ReadText}
use Rattle.model.specs.declared.answer.ReadText.TheVariants as text
use Rattle.model.specs.declared.answer.Refusal.{Refusal}
use Rattle.model.specs.declared.answer.Told.{Told}
use Rattle.piece.specs.Next.{next_told}
use Rattle.cases.specs.declared.step.Call.{Call}
use Rattle.cases.specs.declared.step.Call.TheVariants as call
use Rattle.cases.specs.declared.step.Spending.TheVariants.{Elem, Pi, Bang}
use Rattle.replies.specs.declared.reply.Reply.{Reply}
use Rattle.replies.specs.declared.reply.Reply.TheVariants.{Single, Next}

abbrev pub reply_told : Reply → Told
reply_told (Single answer) = model.told answer
reply_told (Next answer) = next_told answer

-- a text of no bytes at the end is the last
abbrev pub after_text : Result ReadText Refusal → Option Call
after_text (Ok text.Markup) = Some call.Peek
after_text (Ok text.Ref) = Some call.Ref
after_text (Ok (text.UpToMarkup w)) = Some call.Text
after_text (Ok (text.UpToRef w)) = Some call.Text
after_text (Ok (text.UpToEof w)) = cond (w == 0) None (Some call.Text)
after_text (Err e) = None

-- `!` is 33, `?` is 63
abbrev pub after_peek : {T : Type 0} → Result (Option (ℕ × T)) Refusal → Option Call
after_peek (Ok (Some (b, t))) = Some (call.Spend (cond (b == 33) Bang (cond (b == 63) Pi Elem)))
after_peek (Ok None) = None
after_peek (Err e) = None

-- a text after a whole piece
abbrev pub then_text : {A E : Type 0} → Result A E → Option Call
then_text (Ok a) = Some call.Text
then_text (Err e) = None

abbrev pub after_single : {T : Type 0} → Answer T → Option Call
after_single (answer.Text r) = after_text r
after_single (answer.Ref r) = then_text r
after_single (answer.Peek r) = after_peek r
after_single (answer.With r) = then_text r
after_single (answer.Bang r) = then_text r
after_single (answer.Abandon r) = None

abbrev pub follower_of : Reply → Option Call
follower_of (Single answer) = after_single answer
follower_of (Next (Ok (Some piece))) = Some call.Next
follower_of (Next (Ok None)) = None
follower_of (Next (Err e)) = None
