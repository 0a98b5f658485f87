-- A watched bus, as a stage for a run's events.
use Rattle.pb_world.specs.declared.causes.Inquiry.{Inquiry}
use Rattle.pb_world.specs.declared.watched.Watched.{Watched}
use Rattle.pb_world.specs.Watched.{HasCome, world_in}
use Rattle.pb_scenario.specs.Stages.{StageView}

abbrev pub watched_view : Watched → StageView
watched_view w = record { world = world_in w; comes = HasCome w }

abbrev pub inquiry_view : Inquiry → StageView
inquiry_view i = watched_view i.watched
