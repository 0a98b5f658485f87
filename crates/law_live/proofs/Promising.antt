-- What runs promise of the worlds that they lead to.
use Rattle.std.proofs.Common.{List, [], ◌++◌, refl}
use Rattle.law_model.specs.World.{World, Event}
use Rattle.law_live.specs.Promises.{LeadTo, KeepsPromises, NewWorldsBegin, RunsLeadOn}
use Rattle.law_token.proofs.whole.JoinedRuns.{runs_join, events_join}
use Rattle.law_token.proofs.whole.Readers.{none_in_silence, one_token}
use Rattle.law_live.proofs.Runs.{never_dead}

-- a world to which events have led keeps the promises
pub kept_promises : (start w : World) (events : List Event) → LeadTo start events w → KeepsPromises start events w
kept_promises start w events lead = record {
  token = one_token lead.p lead.specs events start w lead.valid lead.run;
  live = never_dead lead.p lead.specs events start w lead.valid lead.run;
  silence = none_in_silence lead.p lead.specs events start w lead.valid lead.run;
}

pub new_begins : NewWorldsBegin
new_begins p specs w valid fit made =
    let lead : LeadTo w [] w = record { p = p; specs = specs; valid = valid; run = record { fit = fit; are = tt; made = made; runs = refl } } in
    (lead, kept_promises w w [] lead)

-- two runs, one after the other
pub run_leads_on : RunsLeadOn
run_leads_on w next events are runs start before lead =
    let run = lead.run in
    let on : LeadTo start (before ++ events) next = record {
      p = lead.p;
      specs = lead.specs;
      valid = lead.valid;
      run = record { fit = run.fit; are = events_join before events run.are are; made = run.made; runs = runs_join before events start next (w, run.runs, runs) };
    } in
    (on, kept_promises start next (before ++ events) on)
