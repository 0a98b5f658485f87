-- The moments of all taps, in either form.
use Rattle.std.specs.Arc.{arc_value}
use Rattle.std.specs.Prelude.{ℕ, List, Option}
use Rattle.pb_segment.specs.declared.outlooks.Moments.{Moments}
use Rattle.pb_segment.specs.declared.outlooks.Moments.TheVariants as moments

abbrev pub moments_in : Moments → List (Option ℕ)
moments_in (moments.Few few) = (arc_value few).items
moments_in (moments.Many many) = (arc_value many).items
