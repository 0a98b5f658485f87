-- Other data with which a tap replies leave a holder its time: what is due, and when, is the same.
use Rattle.std.proofs.Common.{◌≡◌, ℕ, ◌+◌, ◌≤◌, true, List, refl, sym, subst, Option, Some, None, Ok}
use Rattle.std.specs.Prelude.{slice_get, slice_set}
use Rattle.pb_timers.specs.Timers.{Params}
use Rattle.law_turn.specs.Stations.{Station, Reply}
use Rattle.law_model.specs.Trace.{Entry}
use Rattle.law_model.specs.Medium.{Tap}
use Rattle.law_model.specs.World.{World}
use Rattle.law_token.specs.Data.{tap_with, set_data_at, set_data}
use Rattle.law_token.specs.Views.{view}
use Rattle.law_token.proofs.bus.Lists.{at_set}
use Rattle.law_token.proofs.replies.Alike.{AlikeReplies, with_replies}
use Rattle.law_token.proofs.replies.Kept.{viewed}
use Rattle.law_live.specs.Flow.{FlowTap, Flow}
use Rattle.law_live.specs.Holding.{Spends}
use Rattle.law_live.proofs.DueReplies.{DueBy}

due_alike : (m : ℕ) (s : Station) (o r : Option Reply) → AlikeReplies o r → DueBy m (record s { reply = o }) → DueBy m (record s { reply = r })
due_alike m s None None h d = tt
due_alike m s None (Some b) h d = absurd h
due_alike m s (Some a) None h d = absurd h
due_alike m s (Some a) (Some b) h d = subst (λ n. n ≤ m) h.0 d

tap_data : (p : Params) (now : ℕ) (tr : List Entry) (k : ℕ) (t : Tap) (unit : List ℕ) → FlowTap p now tr k t → FlowTap p now tr k (tap_with t unit)
tap_data p now tr k t unit f =
    let v = view p t in
    let a = viewed p t unit in
    let z = with_replies a.table a.reply v in
    record {
      spends = λ q calm. let o = f.spends q calm in
          subst (λ (s : Station). Spends p (q + p.ttd) (q + p.ttd) s) (sym a.is) (record { target = o.target; received = o.received; retries = o.retries; short = o.short; spends = o.spends });
      waits = subst (λ (s : Station). DueBy (now + p.tsdr) s) (sym a.is) (due_alike (now + p.tsdr) z v.reply a.reply a.differ.replies f.waits);
      prompt = λ y ends. subst (λ (s : Station). DueBy (y + p.ttd + p.tsdr) s) (sym a.is) (due_alike (y + p.ttd + p.tsdr) z v.reply a.reply a.differ.replies (f.prompt y ends));
    }

pub data_flow : (w next : World) (tap : ℕ) (unit : List ℕ) → set_data w tap unit ≡ Ok next → Flow w → Flow next
data_flow w next tap unit ok f = by (slice_get w.taps tap) refl ok
  where
    by : (o : Option Tap) → slice_get w.taps tap ≡ o → set_data_at w tap unit o ≡ Ok next → Flow next
    by None at ok = absurd cc
    by (Some t) at ok =
        let y = tap_with t unit in
        let made : World = record w { taps = slice_set w.taps tap y } in
        let same : made ≡ next = cc in
        subst Flow same (record {
          reply_in_time = f.reply_in_time;
          short = f.short;
          replies = f.replies;
          requests = f.requests;
          taps = at_set (λ k u. u.running ≡ true → FlowTap w.params w.now w.trace k u) w.taps tap y (λ run. tap_data w.params w.now w.trace tap t unit (f.taps tap t at run)) (λ k u ne here run. f.taps k u here run);
        })
