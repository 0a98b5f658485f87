-- A burst that raises no alarm.
use Rattle.std.proofs.Common.{◌≡◌, ◌∙◌, ap, Bool, ◌++◌, append-nil, Option, None}
use Rattle.std.specs.Prelude.{is_some}
use Rattle.pb_timers.specs.Timers.{Params}
use Rattle.pb_monitor.specs.Hearing.{has_lines, heard_text, judge_behind, known_behind, line_if, raised_by, raised_text}
use Rattle.pb_monitor.specs.Judging.{Judging}
use Rattle.pb_monitor.specs.Known.{Known, alarmed_if, heard}
use Rattle.pb_monitor.specs.declared.bursts.Burst.{Burst}
use Rattle.pb_monitor.specs.declared.formats.Options.{Options}

-- it appends its line alone
pub line_alone : (p : Option Params) (o : Options) (handed_on : Bool) (b : Burst) (judge : Option Judging) → raised_by b judge ≡ None
    → heard_text p o handed_on b judge ≡ line_if (has_lines o handed_on) b (judge_behind b judge)
line_alone p o handed_on b judge none =
    let line = line_if (has_lines o handed_on) b (judge_behind b judge) in
    ap (λ r. line ++ raised_text p o.slack b.begin r) none ∙ append-nil line

-- it is counted alone
pub known_alone : (b : Burst) (judge : Option Judging) (k : Known) → raised_by b judge ≡ None → known_behind b judge k ≡ heard b k
known_alone b judge k none = ap (λ r. alarmed_if (is_some r) (heard b k)) none
