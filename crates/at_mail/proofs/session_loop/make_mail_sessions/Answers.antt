use Rattle.std.proofs.Common.{◌≡◌, ◌+◌, ◌∙◌, [], ◌∷◌, ◌++◌, ℕ, length, refl, subst, sym, arith}
use Rattle.std.specs.Prelude.{Option}
use Rattle.tool_output.specs.Outside.{RestsBefore, RestsOn}
use Rattle.at_mail.specs.SessionsWithRests.{IsSession, no_session, rest_after_sessions}
use Rattle.at_mail.specs.Program.{mail_outside, work_with}
use Rattle.at_mail.proofs.MakingLemmas.{ended_at, ended_made, keeps_all, last_more, makes_more, one_longer, rest_same}
use Rattle.at_mail.proofs.session_loop.make_mail_sessions.Goals as goal

pub loop-place-init : goal.loop-place-init
loop-place-init g c = record { made = refl; items = []; all = refl; makes = no_session; goes_on = refl }

pub next_mail_session-requires-clause-outside : goal.next_mail_session-requires-clause-outside
next_mail_session-requires-clause-outside g c =
    let first =
    work_with c.args.post.now (mail_outside g.H.Host g.R.Readings g.E.Sink c.args.host.now c.args.readings.now c.args.err.now) in
    (keeps_all (mail_outside g.H.Host g.R.Readings g.E.Sink c.args.host.now c.args.readings.now c.args.err.now).tells first
    c.requires.outside c.requires.children c.loop-place.invariant.items
    (work_with c.loop-place.post (mail_outside g.H.Host g.R.Readings g.E.Sink c.loop-place.host c.loop-place.readings c.loop-place.err))
    c.loop-place.invariant.makes).outside

pub next_mail_session-requires-clause-children : goal.next_mail_session-requires-clause-children
next_mail_session-requires-clause-children g c =
    let first =
    work_with c.args.post.now (mail_outside g.H.Host g.R.Readings g.E.Sink c.args.host.now c.args.readings.now c.args.err.now) in
    (keeps_all (mail_outside g.H.Host g.R.Readings g.E.Sink c.args.host.now c.args.readings.now c.args.err.now).tells first
    c.requires.outside c.requires.children c.loop-place.invariant.items
    (work_with c.loop-place.post (mail_outside g.H.Host g.R.Readings g.E.Sink c.loop-place.host c.loop-place.readings c.loop-place.err))
    c.loop-place.invariant.makes).children

pub loop-place-preserved : goal.loop-place-preserved
loop-place-preserved g c =
    let tells = (mail_outside g.H.Host g.R.Readings g.E.Sink c.args.host.now c.args.readings.now c.args.err.now).tells in
    let first =
    work_with c.args.post.now (mail_outside g.H.Host g.R.Readings g.E.Sink c.args.host.now c.args.readings.now c.args.err.now) in
    let last =
    work_with c.loop-place.post (mail_outside g.H.Host g.R.Readings g.E.Sink c.loop-place.host c.loop-place.readings c.loop-place.err) in
    let rested = work_with c.loop-place.post
    (mail_outside g.H.Host g.R.Readings g.E.Sink c.loop-place.host c.rest_before_mail_session.new.readings c.loop-place.err) in
    let after = work_with c.next_mail_session.new.post (mail_outside g.H.Host g.R.Readings g.E.Sink c.next_mail_session.new.host
    c.rest_before_mail_session.new.readings c.next_mail_session.new.err) in
    let items = c.loop-place.invariant.items in
    let one = c.in-None.ensures.makes in
    let session : IsSession tells one.item rested after = record { posts = one.posts; says = one.says; clock = refl; input = refl } in
    let rests : RestsBefore g.R.Readings.tells (rest_after_sessions items) last rested = record {
      clock = subst (λ (rest : Option ℕ). RestsOn g.R.Readings.tells rest last.clock rested.clock)
          (rest_same items c.loop-place.place c.loop-place.invariant.all) c.rest_before_mail_session.ensures;
      spool = refl;
      input = refl;
      said = refl;
    } in
    record {
      made = c.next_mail_session.ensures.made ∙ c.loop-place.invariant.made;
      items = items ++ one.item ∷ [];
      all = (let longer : length (items ++ one.item ∷ []) ≡ length items + 1 = one_longer items one.item in
          let before : length items ≡ c.loop-place.place = c.loop-place.invariant.all in omega arith);
      makes =
          makes_more tells items first last rested after c.loop-place.invariant.makes c.loop-place.invariant.goes_on rests one.item session;
      goes_on = last_more items one.item ∙ sym one.comes;
    }

pub returns-in-Some-clause-makes : goal.returns-in-Some-clause-makes
returns-in-Some-clause-makes g c =
    let tells = (mail_outside g.H.Host g.R.Readings g.E.Sink c.args.host.now c.args.readings.now c.args.err.now).tells in
    let first =
    work_with c.args.post.now (mail_outside g.H.Host g.R.Readings g.E.Sink c.args.host.now c.args.readings.now c.args.err.now) in
    let last =
    work_with c.loop-place.post (mail_outside g.H.Host g.R.Readings g.E.Sink c.loop-place.host c.loop-place.readings c.loop-place.err) in
    let rested = work_with c.loop-place.post
    (mail_outside g.H.Host g.R.Readings g.E.Sink c.loop-place.host c.rest_before_mail_session.new.readings c.loop-place.err) in
    let after = work_with c.next_mail_session.new.post (mail_outside g.H.Host g.R.Readings g.E.Sink c.next_mail_session.new.host
    c.rest_before_mail_session.new.readings c.next_mail_session.new.err) in
    let items = c.loop-place.invariant.items in
    let one = c.in-Some.ensures.makes in
    let session : IsSession tells one.item rested after = record { posts = one.posts; says = one.says; clock = refl; input = refl } in
    let rests : RestsBefore g.R.Readings.tells (rest_after_sessions items) last rested = record {
      clock = subst (λ (rest : Option ℕ). RestsOn g.R.Readings.tells rest last.clock rested.clock)
          (rest_same items c.loop-place.place c.loop-place.invariant.all) c.rest_before_mail_session.ensures;
      spool = refl;
      input = refl;
      said = refl;
    } in
    ended_at tells items first last rested after c.loop-place.invariant.makes c.loop-place.invariant.goes_on rests one.item session
    c.args.turns c.in-Some.outcome
    (let before : length items ≡ c.loop-place.place = c.loop-place.invariant.all in omega arith) one.comes

pub returns-clause-makes : goal.returns-clause-makes
returns-clause-makes g c =
    let tells = (mail_outside g.H.Host g.R.Readings g.E.Sink c.args.host.now c.args.readings.now c.args.err.now).tells in
    let first =
    work_with c.args.post.now (mail_outside g.H.Host g.R.Readings g.E.Sink c.args.host.now c.args.readings.now c.args.err.now) in
    let last =
    work_with c.loop-place.post (mail_outside g.H.Host g.R.Readings g.E.Sink c.loop-place.host c.loop-place.readings c.loop-place.err) in
    ended_made tells c.loop-place.invariant.items c.args.turns first last c.loop-place.invariant.makes c.loop-place.invariant.goes_on
    (let before : length c.loop-place.invariant.items ≡ c.loop-place.place = c.loop-place.invariant.all in omega arith)
