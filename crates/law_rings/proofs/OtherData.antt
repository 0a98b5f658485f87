-- Other data with which a tap replies keep a ring undisturbed and its receipts in order: only a reply to a service has
-- other octets then, and such a reply tells nobody that its sender is ready for the ring.
use Rattle.std.proofs.Common.{◌≡◌, ℕ, ◌+◌, ⊎_elim, Bool, true, false, if◌then◌else◌, ◌==◌, ◌&&◌, List, [], refl, sym, ap, ◌∙◌, subst, Option, Some, None, Ok}
use Rattle.std.specs.Prelude.{◌%◌, ◌*◌, ◌/◌, length, map, slice_set}
use Rattle.std.proofs.Math.Nat.{mul-add-mod_self_left}
use Rattle.pb_telegram.specs.Faults.{octets, fault_of}
use Rattle.pb_telegram.specs.declared.faults.TelegramFault.{TelegramFault}
use Rattle.pb_telegram.specs.declared.chars.RxChar.TheVariants.{Good}
use Rattle.pb_timers.specs.Timers.{Params}
use Rattle.pb_cycles.specs.declared.services.Priority.{Priority}
use Rattle.pb_cycles.specs.Requests.{is_high}
use Rattle.pb_cycles.specs.Fields.{Fields}
use Rattle.pb_cycles.specs.Messages.{has_bit, frame_octets, reply_octets}
use Rattle.pb_cycles.specs.Responding.{reply_frame, data_reply, service_reply}
use Rattle.pb_cycles.specs.declared.messages.Reply as messages
use Rattle.pb_cycles.specs.declared.messages.Reply.TheVariants.{Acknowledge}
use Rattle.pb_cycles.specs.declared.services.Service.{Service}
use Rattle.pb_cycles.specs.declared.services.Service.TheVariants.{Sda, Sdn, Srd}
use Rattle.law_turn.specs.Arrivals.{telegram_arrival, arrival_unless, arrival_of}
use Rattle.law_turn.specs.Hearing.{ready_for_ring, tells_ready}
use Rattle.law_turn.specs.Stations.{Station, Reply}
use Rattle.law_model.specs.Medium.{Tap}
use Rattle.law_model.specs.World.{World}
use Rattle.law_model.proofs.Cases.{by_test}
use Rattle.law_token.specs.Data.{tap_with, set_data}
use Rattle.law_token.specs.Views.{view}
use Rattle.law_token.proofs.replies.Alike.{AlikeReplies, OfService, HaveAlikeOctets}
use Rattle.law_token.proofs.replies.Kept.{viewed, is_set}
use Rattle.law_token.proofs.turn.Meaning.{arrival_spelled}
use Rattle.law_live.specs.Holding.{Spends}
use Rattle.law_rings.specs.Receipts.{Rotates, Rotating}
use Rattle.law_rings.specs.Ring.{TellsNotReady, brought_by}
use Rattle.law_rings.proofs.RotatesTurn.{SameTimes, rotates_set}
use Rattle.law_rings.proofs.SameLooks.{AsReply, LooksAs, set_looks, ring_looks, ring_looks_call}

-- ---- a reply to a service

-- octets that spell it
abbrev SaysNotReady : messages.Reply → Type 0
SaysNotReady y = TellsNotReady (telegram_arrival (reply_octets y))

frame_tells : (f : Fields) → tells_ready f.fc ≡ false → TellsNotReady (telegram_arrival (frame_octets f))
frame_tells f e =
    by_test (λ (xs : List ℕ). TellsNotReady (telegram_arrival xs)) (length f.unit == 0) _ _ (λ _. e)
    (λ _. by_test (λ (xs : List ℕ). TellsNotReady (telegram_arrival xs)) (length f.unit == 8) _ _ (λ _. e) (λ _. e))

-- a control octet with a code other than 0
code_tells : (station_type code : ℕ) → (code % 16 == 0) ≡ false → tells_ready (16 * station_type + code) ≡ false
code_tells station_type code other =
    ap (λ n. (16 * station_type + code) / 16 % 4 == ready_for_ring && n == 0) (mul-add-mod_self_left 16 station_type code)
    ∙ none ((16 * station_type + code) / 16 % 4 == ready_for_ring) (code % 16 == 0) other
  where
    none : (a b : Bool) → b ≡ false → (a && b) ≡ false
    none false b e = refl
    none true b e = e

reply_tells : (ts station_type : ℕ) (f : Fields) (code : ℕ) (unit : List ℕ) → (code % 16 == 0) ≡ false → SaysNotReady (reply_frame ts station_type f code unit)
reply_tells ts station_type f code unit other = frame_tells (record { da = f.sa % 128; sa = ts; fc = 16 * station_type + code; unit = unit }) (code_tells station_type code other)

service_says : (ts station_type : ℕ) (f : Fields) (service : Service) (priority : Priority) (unit : List ℕ) → SaysNotReady (service_reply ts station_type f service priority unit)
service_says ts station_type f Sda priority unit =
    by_test SaysNotReady (has_bit f.da 7) (reply_frame ts station_type f 3 []) Acknowledge (λ _. reply_tells ts station_type f 3 [] refl) (λ _. tt)
service_says ts station_type f Sdn priority unit = tt
service_says ts station_type f Srd priority unit =
    by_test SaysNotReady (has_bit f.da 7) (reply_frame ts station_type f 3 []) (data_reply ts station_type f priority unit) (λ _. reply_tells ts station_type f 3 [] refl)
    (λ _. by_test SaysNotReady (length unit == 0) (reply_frame ts station_type f 9 []) (if is_high priority then reply_frame ts station_type f 10 unit else reply_frame ts station_type f 8 unit) (λ _. reply_tells ts station_type f 9 [] refl)
    (λ _. by_test SaysNotReady (is_high priority) (reply_frame ts station_type f 10 unit) (reply_frame ts station_type f 8 unit) (λ _. reply_tells ts station_type f 10 unit refl) (λ _. reply_tells ts station_type f 8 unit refl)))

service_tells : (xs : List ℕ) → OfService xs → TellsNotReady (brought_by xs)
service_tells xs s = by (fault_of (map Good xs)) refl
  where
    by : (o : Option TelegramFault) → fault_of (map Good xs) ≡ o → TellsNotReady (arrival_of (map Good xs))
    by (Some fault) e = subst (λ o. TellsNotReady (arrival_unless o (octets (map Good xs)))) (sym e) tt
    by None e =
        subst TellsNotReady (sym (arrival_spelled xs e ∙ ap telegram_arrival s.is)) (service_says s.ts s.station_type s.f s.service s.priority s.unit)

-- ---- a tap

alike_replies : (o r : Option Reply) → AlikeReplies o r → HaveAlikeOctets o r → AsReply o r
alike_replies None None h g = tt
alike_replies None (Some b) h g = absurd h
alike_replies (Some a) None h g = absurd h
alike_replies (Some a) (Some b) h g =
    (sym h.0, λ tells. ⊎_elim (λ (same : a.octets ≡ b.octets). subst (λ xs. TellsNotReady (brought_by xs)) same tells) (λ (s : OfService b.octets). service_tells b.octets s) g)

data_looks : (p : Params) (t : Tap) (unit : List ℕ) → LooksAs p t (tap_with t unit)
data_looks p t unit =
    let a = viewed p t unit in
    record {
      running = refl;
      address = refl;
      master = refl;
      since = refl;
      phase = ap (λ (z : Station). z.phase) a.is;
      busy = ap (λ (z : Station). z.busy) a.is;
      las = ap (λ (z : Station). z.las) a.is;
      reply = subst (AsReply (view p t).reply) (sym (ap (λ (z : Station). z.reply) a.is)) (alike_replies (view p t).reply a.reply a.differ.replies (a.differ.octets tt));
    }

data_times : (p : Params) (t : Tap) (unit : List ℕ) → SameTimes p t (tap_with t unit)
data_times p t unit =
    let a = viewed p t unit in
    record {
      running = refl;
      address = refl;
      phase = ap (λ (z : Station). z.phase) a.is;
      rotation = ap (λ (z : Station). z.rotation) a.is;
      spends = λ _ recent d o. subst (λ (s : Station). Spends p recent d s) (sym a.is) (record { target = o.target; received = o.received; retries = o.retries; short = o.short; spends = o.spends });
    }

-- ---- the world

pub data_rotating : (w next : World) (base : ℕ) (members : List ℕ) (tap : ℕ) (unit : List ℕ) → set_data w tap unit ≡ Ok next → Rotating w base members → Rotating next base members
data_rotating w next base members tap unit ok r =
    let d = is_set w next tap unit ok in
    let x = tap_with d.t unit in
    let taps = slice_set w.taps tap x in
    let looks = set_looks w.params w.taps tap d.t x d.here (data_looks w.params d.t unit) in
    subst (λ z. Rotating z base members) d.is
    (record {
      ring = ring_looks w base members taps looks r.ring;
      rotates = subst (Rotates (record w { taps = taps }) base members) (sym (ring_looks_call w base members taps looks r.ring))
          (rotates_set w base r.ring.call.answered members r.ring.call tap d.t x w.trace d.here (data_times w.params d.t unit) r.rotates);
    })
