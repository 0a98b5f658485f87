use Rattle.law_rings.proofs.RingLists.{keeps-ring}
use Rattle.law_rings.proofs.lists.a_token_to_the_next_station_keeps_the_list.Goals as goal

pub returns : goal.returns
returns c members own sa up m = keeps-ring members own sa up m
