use Rattle.std.proofs.Common.{◌≡◌, ◌++◌, ◌/◌, ◌%◌, List, ℕ, string_bytes}
use Rattle.std.specs.Prelude.{OnOk}
use Rattle.mp4_show.proofs.Days.{day_shown}
use Rattle.mp4_show.specs.Dates.{day_text}
use Rattle.mp4_show.proofs.dates.push_day.Goals as goal

pub returns : goal.returns
unfolding day_text
returns c = record {
  text = day_shown
      (λ (t : List ℕ). OnOk c.push_month.result (string_bytes c.push_month.new.out ≡ string_bytes c.args.out.now ++ t))
      (c.args.days / 146_097) (c.args.days % 146_097) c.year_of-place.result c.month_of-month.result
      c.year_of-place.ensures.place c.month_of-month.ensures.place c.push_month.ensures.text;
}
