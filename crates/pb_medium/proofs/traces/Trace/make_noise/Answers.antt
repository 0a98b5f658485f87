use Rattle.std.proofs.Common.{◌≡◌, ◌∙◌, ap, sym, refl, ◌++◌, ◌==◌, Some, None, ◌+◌, Bool, false, ℕ, length, arith}
use Rattle.std.specs.Prelude.{take}
use Rattle.std.specs.List.{position}
use Rattle.std.proofs.lemmas.Bool.{ne_eqb, le-leb, lt-leb}
use Rattle.law_model.specs.Step.{with_noise}
use Rattle.law_model.specs.Trace.{is_noise_at, noisy_until, Noise, with_entry}
use Rattle.pb_medium.specs.Entries.{entry_of}
use Rattle.pb_medium.specs.Noising.{has_noise, has_no_room, RefusesNoise}
use Rattle.pb_medium.specs.Traces.{limit_of, entries_of, recent_of, RefusesRoom}
use Rattle.pb_medium.specs.declared.traces.Trace.{Trace}
use Rattle.pb_taps.specs.declared.faults.WorldFault.{WorldFault}
use Rattle.pb_taps.specs.declared.faults.WorldFault.TheVariants as fault
use Rattle.pb_taps.proofs.Behind.{err-of}
use Rattle.pb_medium.proofs.Hitting.{placed, not-placed, set-behind}
use Rattle.pb_medium.proofs.Lending.{after-room}
use Rattle.pb_medium.proofs.traces.Trace.make_noise.Goals as goal

-- new noise is refused as any new entry is
refused : (bits : ℕ) (noisy : Bool) (t : Trace) (reason : WorldFault) → (bits == 0) ≡ false → noisy ≡ false → RefusesRoom t reason → RefusesNoise bits noisy (limit_of t) (length (entries_of t)) reason
refused bits noisy t fault.TraceFull some silent full = (some, ap (λ b. has_no_room b (limit_of t) (length (entries_of t))) silent ∙ le-leb (limit_of t) (length (entries_of t)) full)
refused bits noisy t fault.NoMemory some silent room = (some, ap (λ b. has_no_room b (limit_of t) (length (entries_of t))) silent ∙ lt-leb (limit_of t) (length (entries_of t)) room, silent)
refused bits noisy t other some silent wrong = absurd wrong

pub returns-in_err-make_room-in-None-clause-fault : goal.returns-in_err-make_room-in-None-clause-fault
returns-in_err-make_room-in-None-clause-fault c =
    let t = c.args.self.now in
    let test = is_noise_at c.args.now in
    let nowhere : position test (recent_of t) ≡ None = ap (position test) (sym c.recent.ensures) ∙ sym c.noise_in_air.ensures ∙ c.in-None.is in
    let noisy = has_noise c.args.now (recent_of t) in
    err-of (RefusesNoise c.args.bits noisy (limit_of t) (length (entries_of t))) c.from_residual.result c.in_err-make_room-in-None.field-0.0 c.from_residual.ensures.0 c.from_residual.ensures.1
    (refused c.args.bits noisy t c.in_err-make_room-in-None.field-0.0 (ne_eqb c.args.bits 0 c.if-bits-eq0.false) (not-placed test (recent_of t) nowhere) c.in_err-make_room-in-None.ensures.fault)

pub returns-in-Some-clause-ok : goal.returns-in-Some-clause-ok
returns-in-Some-clause-ok c =
    let t = c.args.self.now in
    let now = c.args.now in
    let test = is_noise_at now in
    let here : position test (recent_of t) ≡ Some c.in-Some.place = ap (position test) (sym c.recent.ensures) ∙ sym c.noise_in_air.ensures ∙ c.in-Some.is in
    let sum : c.get-begin.result + c.from.result ≡ now + c.args.bits = omega (arith, c.get-begin.ensures.value, c.from.ensures) in
    let there = (placed test (recent_of t) c.in-Some.place here).1 in
    record {
      over = refl;
      limit = refl;
      entries = set-behind entry_of test (noisy_until (now + c.args.bits)) t.entries.items t.over c.in-Some.place c.prolong.new.entry c.index_mut.result.now here t.within
          (c.prolong.ensures ∙ ap (λ m. noisy_until m (entry_of c.index_mut.result.now)) sum ∙ ap (λ e. noisy_until (now + c.args.bits) (entry_of e)) c.index_mut.ensures.value)
          ∙ ap (λ b. take t.over (entries_of t) ++ with_noise now (now + c.args.bits) b (recent_of t)) (sym there);
    }

pub returns-in-Some-clause-room : goal.returns-in-Some-clause-room
returns-in-Some-clause-room c =
    let t = c.args.self.now in
    let test = is_noise_at c.args.now in
    let here : position test (recent_of t) ≡ Some c.in-Some.place = ap (position test) (sym c.recent.ensures) ∙ sym c.noise_in_air.ensures ∙ c.in-Some.is in
    ap (λ b. has_no_room b (limit_of t) (length (entries_of t))) (placed test (recent_of t) c.in-Some.place here).1

pub returns-in_ok-make_room-in-None-clause-ok : goal.returns-in_ok-make_room-in-None-clause-ok
returns-in_ok-make_room-in-None-clause-ok c =
    let t = c.args.self.now in
    let now = c.args.now in
    let test = is_noise_at now in
    let nowhere : position test (recent_of t) ≡ None = ap (position test) (sym c.recent.ensures) ∙ sym c.noise_in_air.ensures ∙ c.in-None.is in
    let sum : c.get-begin.result + c.from.result ≡ now + c.args.bits = omega (arith, c.get-begin.ensures.value, c.from.ensures) in
    let becomes = after-room (with_entry (Noise (record { begin = c.get-begin.result; end = c.get-begin.result + c.from.result }))) t c.make_room.new.self c.put.new.self
    c.in_ok-make_room-in-None.ensures.same c.put.ensures.becomes in
    record {
      over = becomes.over;
      limit = becomes.limit;
      entries = becomes.entries
          ∙ ap (λ n. take t.over (entries_of t) ++ with_entry (Noise (record { begin = n; end = c.get-begin.result + c.from.result })) (recent_of t)) c.get-begin.ensures.value
          ∙ ap (λ n. take t.over (entries_of t) ++ with_entry (Noise (record { begin = now; end = n })) (recent_of t)) sum
          ∙ ap (λ b. take t.over (entries_of t) ++ with_noise now (now + c.args.bits) b (recent_of t)) (sym (not-placed test (recent_of t) nowhere));
    }
