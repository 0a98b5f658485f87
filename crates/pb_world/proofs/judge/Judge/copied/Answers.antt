-- The same is kept.
use Rattle.std.proofs.Common.{◌∙◌, ap, map}
use Rattle.pb_world.specs.Airtimes.{air_of}
use Rattle.pb_world.proofs.judge.Judge.copied.Goals as goal

pub returns : goal.returns
returns c = λ p specs entries kept. record {
  params = kept.params;
  addresses = c.in_ok-copied.ensures ∙ c.deref.ensures.value ∙ kept.addresses;
  few = kept.few;
  count = kept.count;
  ends = c.in_ok-copied-2.ensures.ends ∙ kept.ends;
  recent = ap (map air_of) c.in_ok-copied-2.ensures.recent ∙ kept.recent;
  last = kept.last;
  illegal = kept.illegal;
}
