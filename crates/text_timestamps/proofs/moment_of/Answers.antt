use Rattle.std.proofs.Common.{◌≡◌, ◌∙◌, ◌&&◌}
use Rattle.text_calendar.specs.Calendar.{is_time}
use Rattle.text_timestamps.proofs.MomentLaws.{no_date, no_time, the_moment}
use Rattle.text_timestamps.proofs.moment_of.Goals as goal
use Rattle.text_timestamps.proofs.moment_of.Goals.{then-is_day, else-is_day}

pub returns-in_err-century : goal.returns-in_err-century
returns-in_err-century c = c.from_residual.ensures ∙ no_date _ _ 0 c.in_err-century.ensures.value

pub returns-in_err-year : goal.returns-in_err-year
returns-in_err-year c = c.from_residual-in_err-year.ensures ∙ no_date _ _ 2 c.in_err-year.ensures.value

pub returns-in_err-month : goal.returns-in_err-month
returns-in_err-month c = c.from_residual-in_err-month.ensures ∙ no_date _ _ 4 c.in_err-month.ensures.value

pub returns-in_err-day : goal.returns-in_err-day
returns-in_err-day c = c.from_residual-in_err-day.ensures ∙ no_date _ _ 6 c.in_err-day.ensures.value

pub returns-in_err-hour : goal.returns-in_err-hour
returns-in_err-hour c = c.from_residual-in_err-hour.ensures ∙ no_time _ _ 0 c.in_err-hour.ensures.value

pub returns-in_err-minute : goal.returns-in_err-minute
returns-in_err-minute c = c.from_residual-in_err-minute.ensures ∙ no_time _ _ 2 c.in_err-minute.ensures.value

pub returns-in_err-second : goal.returns-in_err-second
returns-in_err-second c = c.from_residual-in_err-second.ensures ∙ no_time _ _ 4 c.in_err-second.ensures.value

pub returns : goal.returns
returns c =
    let right : c.if-is_day.right ≡ (c.is_day.result && is_time c.in_ok-hour.hour c.in_ok-minute.minute c.in_ok-second.second) =
    elim c.if-is_day.branch [ then-is_day w ↦ rw (w.right-is, w.if-is_day.true) w.is_time_of_day-right.ensures | else-is_day w ↦ rw (w.right-is, w.if-is_day.false) ]
    in
    the_moment c.args.date.now c.args.time.now c.requires _ _ _ _ c.in_ok-century.ensures.value c.in_ok-year.ensures.value
    c.in_ok-month.ensures.value c.in_ok-day.ensures.value c.in_ok-year.ensures.small _ _ _ c.in_ok-hour.ensures.value
    c.in_ok-minute.ensures.value c.in_ok-second.ensures.value _ c.is_day.ensures _ right _ c.then_some.ensures
