use Rattle.std.proofs.Common.{◌≡◌, ◌∙◌, refl, subst, true}
use Rattle.std.specs.Prelude.{OnOk, IfErr}
use Rattle.std.proofs.lemmas.List.{take-append-drop}
use Rattle.pb_medium.specs.Damaging.{can_hit, damaged, RefusesHit}
use Rattle.pb_medium.specs.Entries.{hit_of}
use Rattle.pb_medium.specs.Traces.{entries_of}
use Rattle.pb_taps.proofs.Behind.{on-ok, on-err}
use Rattle.pb_medium.proofs.Lending.{given-back, lent-as}
use Rattle.pb_medium.proofs.traces.Trace.damage.Goals as goal

pub returns-clause-ok : goal.returns-clause-ok
returns-clause-ok c =
    on-ok c.damage.result
    (λ hits. record {
      over = refl;
      limit = refl;
      entries = given-back c.args.self.now c.deref_mut.result.now c.damage.new.entries (damaged c.args.delay c.args.speaker c.args.now (hit_of c.args.hit))
          c.deref_mut.ensures.value c.deref_mut.ensures.len c.damage.ensures.length hits;
    })
    c.damage.ensures.ok

pub returns-clause-found : goal.returns-clause-found
returns-clause-found c =
    subst (λ es. OnOk c.damage.result (can_hit c.args.delay c.args.speaker c.args.now (hit_of c.args.hit) es ≡ true))
    (lent-as c.args.self.now c.deref_mut.result.now c.deref_mut.ensures.value) c.damage.ensures.found

pub returns-clause-err : goal.returns-clause-err
returns-clause-err c =
    let t = c.args.self.now in
    on-err c.damage.result
    (λ same. record {
      over = refl;
      limit = refl;
      entries = given-back t c.deref_mut.result.now c.damage.new.entries (λ es. es) c.deref_mut.ensures.value c.deref_mut.ensures.len c.damage.ensures.length same
          ∙ take-append-drop t.over (entries_of t);
    })
    c.damage.ensures.err

pub returns-clause-fault : goal.returns-clause-fault
returns-clause-fault c =
    subst (λ es. IfErr c.damage.result (RefusesHit (can_hit c.args.delay c.args.speaker c.args.now (hit_of c.args.hit) es)))
    (lent-as c.args.self.now c.deref_mut.result.now c.deref_mut.ensures.value) c.damage.ensures.fault
