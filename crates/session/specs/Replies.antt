-- What is written of a reply. Assumes nothing: these are definitions.
use Rattle.std.specs.Prelude.{ℕ, List, vec_items, codes, decimal, Result, Ok, Err}
use Rattle.std.specs.declared.alloc.AllocError.{AllocError}
use Rattle.session.specs.Help.{help_text}
use Rattle.session.specs.Messages.{◌&◌, turned_text}
use Rattle.session.specs.Parts.{newline, verdict_text, numbers_text, state_text, exchange_text, tick_text, dot_text, missing_text}
use Rattle.session.specs.declared.failures.Failure.{Failure}
use Rattle.session.specs.declared.failures.Failure.TheVariants.{Memory, Unreadable, TurnedAway}
use Rattle.session.specs.declared.replies.Reply.{Reply}
use Rattle.session.specs.declared.replies.Reply.TheVariants.{Help, NoPlan, Plan, Kept, Verdict, Tick, Dot, State, Gives, Next, Missing, Refused}
use Rattle.session.specs.declared.sessions.Answer.{Answer}
use Rattle.session.specs.declared.sessions.Answer.TheVariants.{Say}

abbrev pub reply_text : Reply → List ℕ
reply_text Help = help_text
reply_text NoPlan = codes "no plan yet" & newline
reply_text (Plan ticks dots) = codes "kept: " & decimal ticks & codes " ticks, " & decimal dots & codes " dots" & newline
reply_text Kept = codes "kept" & newline
reply_text (Verdict v) = verdict_text v
reply_text (Tick t) = tick_text t
reply_text (Dot d) = dot_text d
reply_text (State s) = state_text s
reply_text (Gives e) = exchange_text e
reply_text (Next v) = numbers_text (vec_items v)
reply_text (Missing t) = missing_text t
reply_text (Refused t) = turned_text t & newline

-- what is answered to the line of this number where it is not done: nothing for want of memory, and else what is turned away
abbrev pub answered : Failure → ℕ → Result Answer AllocError
answered (Memory e) line = Err e
answered (Unreadable w) line = Ok (Say (Refused (record { number = 6; place = line; why = w })))
answered (TurnedAway t) line = Ok (Say (Refused t))
