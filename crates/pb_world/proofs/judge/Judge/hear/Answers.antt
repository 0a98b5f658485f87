use Rattle.std.proofs.Common.{◌≡◌, ◌∙◌, ap, sym, subst, arith, ◌+◌, ◌++◌, ◌∷◌, [], length, map}
use Rattle.law_model.specs.Trace.{entry_begin}
use Rattle.law_streams.specs.Judgement.{Kept, bare, ends_by, recent_at, kept_at, is_legal, last_with, first_found, nothing_kept, kept_of, hear}
use Rattle.law_streams.proofs.Judgement.{hears-on}
use Rattle.pb_medium.specs.Entries.{entry_of}
use Rattle.pb_world.specs.Airtimes.{air_of}
use Rattle.pb_world.specs.Judges.{IsLastOf, Keeps}
use Rattle.pb_world.specs.declared.judge.Judge.{Judge}
use Rattle.pb_world.proofs.judge.Judge.hear.Goals as goal

pub returns : goal.returns
returns c = λ p specs entries heard.
    let e = entry_of c.args.entry.now in
    let k : Kept = kept_of p specs entries in
    let now : Kept = kept_at p.ttd (entry_begin e) k in
    let before : Judge = c.args.self.now in
    let delay : c.ttd.result ≡ p.ttd = c.ttd.ensures ∙ ap (λ q. q.ttd) heard.params in
    let ends : c.settle.new.self.ends.items ≡ now.ends =
    c.settle.ensures.ends ∙ ap (λ d. ends_by d c.begin.result before.air.ends.items (map air_of before.air.recent.items)) delay
    ∙ ap (λ m. ends_by p.ttd m before.air.ends.items (map air_of before.air.recent.items)) c.begin.ensures
    ∙ ap (λ ns. ends_by p.ttd (entry_begin e) ns (map air_of before.air.recent.items)) heard.ends
    ∙ ap (λ es. ends_by p.ttd (entry_begin e) k.ends es) heard.recent in
    let recent : map air_of c.settle.new.self.recent.items ≡ now.recent =
    c.settle.ensures.recent ∙ ap (λ d. recent_at d c.begin.result (map air_of before.air.recent.items)) delay
    ∙ ap (λ m. recent_at p.ttd m (map air_of before.air.recent.items)) c.begin.ensures
    ∙ ap (λ es. recent_at p.ttd (entry_begin e) es) heard.recent in
    let settled : Keeps p specs now (record before { air = c.settle.new.self }) = record {
      params = heard.params;
      addresses = heard.addresses;
      few = heard.few;
      count = heard.count;
      ends = ends;
      recent = recent;
      last = heard.last;
      illegal = heard.illegal;
    } in
    let found : c.first_found-self.result ≡ first_found k.illegal k.count (is_legal p specs now e) =
    c.first_found-self.ensures ∙ ap (λ o. first_found o before.count c.is_legal-is_legal.result) heard.illegal
    ∙ ap (λ n. first_found k.illegal n c.is_legal-is_legal.result) heard.count
    ∙ ap (λ b. first_found k.illegal k.count b) (c.is_legal-is_legal.ensures p specs now settled) in
    let next : Kept = record now { illegal = first_found k.illegal k.count (is_legal p specs now e) } in
    let judged : Keeps p specs next (record before { air = c.settle.new.self; illegal = c.first_found-self.result }) = record {
      params = heard.params;
      addresses = heard.addresses;
      few = heard.few;
      count = heard.count;
      ends = ends;
      recent = recent;
      last = heard.last;
      illegal = found;
    } in
    let last : IsLastOf (length specs) (last_with p now e) c.last_with-self.result = c.last_with-self.ensures p specs next judged in
    let after : Judge = record before { count = c.in-Some.count; air = c.push.new.self; last = c.last_with-self.result; illegal = c.first_found-self.result } in
    let counts : c.in-Some.count ≡ before.count + 1 = omega (arith, c.in-Some.ensures) in
    let hears : Keeps p specs (hear p specs k e) after = record {
      params = heard.params;
      addresses = heard.addresses;
      few = heard.few;
      count = counts ∙ ap (λ n. n + 1) heard.count;
      ends = c.push.ensures.ends ∙ ends;
      recent = c.in_ok-push.ensures.recent ∙ ap (λ es. es ++ bare e ∷ []) recent;
      last = last;
      illegal = found;
    } in
    subst (λ k'. Keeps p specs k' after) (sym (hears-on p specs (nothing_kept specs) entries (e ∷ []))) hears
