use Rattle.std.proofs.Common.{refl}
use Rattle.std.specs.Option.{option_map}
use Rattle.law_runs.specs.Premises.{first_number}
use Rattle.pb_world.specs.Buses.{world_with}
use Rattle.pb_world.specs.Premises.{waited_of, broken_of, watched_of, met_by}
use Rattle.pb_world.proofs.Premising.{after-is}
use Rattle.pb_world.proofs.premises.Watch.note.Goals as goal

pub returns-clause-after : goal.returns-clause-after
returns-clause-after c = λ old silent w e sees.
    let f = c.args.foresight in
    let bus = c.args.bus.now in
    let before = c.args.self.now in
    let waiting = c.waiting_now-waiting.result in
    let met = met_by bus.params.ttd bus.now waiting (option_map waited_of before.waited) in
    let after = c.note_change.new.self in
    after-is (watched_of before) w (world_with old bus) e (option_map waited_of after.waited) (option_map broken_of after.broken)
    before.namesakes f.loses f.late met (first_number before.namesakes f.loses f.late met) waiting
    sees.loses sees.late (c.waiting_now-waiting.ensures old silent) c.note_change.ensures.waited refl c.requires.namesakes refl c.note_change.ensures.broken
