use Rattle.std.proofs.Common.{rules, ◌≡◌, ◌+◌, ◌++◌, ◌∷◌, [], length, drop, map, take, suc, refl, sym, ap, ◌∙◌, subst, append_assoc, arith}
use Rattle.std.specs.Prelude.{All, Some, vec_len}
use Rattle.std.specs.Vec.Iter.{into_iter_items}
use Rattle.std.proofs.lemmas.List.{append-nil, drop-map, length_push, map_push, nil_from_length, take_all}
use Rattle.std.proofs.lemmas.List.Elements.{All-head, All-nil, All-push, All-rest}
use Rattle.mb_msg.specs.JournalMode.{retention_of}
use Rattle.mb_msg.specs.Limits.{most_actors}
use Rattle.mb_msg.specs.declared.dead_letter.DeadLetter.{DeadLetter}
use Rattle.mb_dead_letters.specs.KeptListView.{KeptListView}
use Rattle.mb_gate.specs.Accessors.{actors_of, first_home, pass_view, pass_id}
use Rattle.mb_gate.specs.Untouched.{origin_of}
use Rattle.mb_gate.specs.View.{View, obligation_to}
use Rattle.mb_home.specs.Directory.{queues_of}
use Rattle.mb_pool.specs.Places.{gates_of}
use Rattle.mb_send.specs.Sends.{AreRoutes, receiving_queues}
use Rattle.mb_register.specs.ActorSet.{IsNobody}
use Rattle.mb_build.proofs.DirectoryLemmas.{drop-next}
use Rattle.mb_startup.specs.Begun.{AreNewSenders, KeepLettersIn}
use Rattle.mb_system.specs.Members.{OutsideSender, pool_feeds_of}
use Rattle.mb_startup.specs.Shared.{KeepsWhole}
use Rattle.mb_system.specs.Shares.{share_of_sender, shares_of_senders}
use Rattle.mb_startup.proofs.HandlesAndSenders.{none-left, place-left, senders-next, unused-there}
use Rattle.mb_startup.proofs.Sharing.{keeps-next, keeps-none}
use Rattle.mb_startup.proofs.handles_and_senders.open_senders.Goals as goal

pub loop-feed-init : goal.loop-feed-init
loop-feed-init g c =
    let none : c.in_ok-senders.senders.items ≡ [] = search rules in
    let all = c.into_iter-feed-iterator.ensures.into_iter_gives.0 in record {
      whole = all;
      feeds = subst (All (λ f. gates_of f ≡ Some (origin_of c.args.gates.now))) (sym all) c.requires.for_senders.feeds;
      count = ap length none;
      rows = c.into_iter-outside.ensures.rest ∙ ap (λ l. drop (length l) c.args.outside.items) (sym none);
      same_gates = refl;
      kept = (refl, refl, refl, refl);
      shares = subst (λ l. KeepsWhole (pass_view c.args.pass.now).share (pass_view c.args.pass.now).share (shares_of_senders l)) (sym none)
          (keeps-none (pass_view c.args.pass.now).share);
      opened = subst (λ l. AreNewSenders c.args.gates.now most_actors (map (λ row. row.items) (take (length l) c.args.outside.items)) l)
          (sym none) tt;
      keep_letters = subst (KeepLettersIn c.args.journal) (sym none)
          (All-nil (λ (s : OutsideSender). s.send_log.dead.retention ≡ retention_of c.args.journal));
      ports = ap pool_feeds_of none;
    }

pub unreachable-requires : goal.unreachable-requires
unreachable-requires g c =
    let at = c.loop-feed in let feed = c.in-Some.feed in let rest = into_iter_items c.next.new.self in
    let steps : into_iter_items at.feed-iterator ≡ feed ∷ rest = c.in-Some.ensures.steps.0 in
    let none : into_iter_items at.outside ≡ [] =
    nil_from_length (into_iter_items at.outside) (sym at.outside.rest.ok.0 ∙ c.in_default.ensures.cases.0) in
    none-left c.args.outside.items (length at.senders.items) (sym at.invariant.rows ∙ none)
    (place-left at.yielded rest c.args.feeds.items feed c.args.outside.items (length at.senders.items)
    (ap (λ l. at.yielded ++ l) (sym steps) ∙ at.invariant.whole) at.invariant.count c.requires.for_senders.same_count.0)

pub new-sender-requires-clause-routes : goal.new-sender-requires-clause-routes
new-sender-requires-clause-routes g c =
    let at = c.loop-feed in let outside = c.args.outside.items in let sends = c.in-Some-next.sends in
    let rest = into_iter_items c.next-in-loop-feed.new.self in let place = length at.senders.items in
    let gates = c.args.gates.now in let queues = drop 1 (queues_of (first_home gates).value.directory) in
    let lines : into_iter_items at.outside ≡ sends ∷ rest = c.in-Some-next.ensures.cases.0 in
    let row : drop place (map (λ r. r.items) outside) ≡ sends.items ∷ map (λ r. r.items) rest =
    drop-map (λ r. r.items) place outside ∙ ap (map (λ r. r.items)) (sym at.invariant.rows ∙ lines) in
    let unused = unused-there queues (actors_of gates) most_actors (map (λ r. r.items) outside) place sends.items _ c.requires.for_senders.outside row in
    let number : c.len-in-loop-feed.result ≡ place = search rules in
    subst (λ n. AreRoutes n [] sends.items) (sym (ap (λ n. most_actors + n) number)) unused.routes

pub new-sender-requires-clause-none : goal.new-sender-requires-clause-none
new-sender-requires-clause-none g c = ap (λ (l : KeptListView DeadLetter). l.items) c.in_ok-dead.ensures.made

pub loop-feed-preserved : goal.loop-feed-preserved
loop-feed-preserved g c =
    let at = c.loop-feed in let outside = c.args.outside.items in let sends = c.in-Some-next.sends in
    let left = into_iter_items c.next-in-loop-feed.new.self in let place = length at.senders.items in
    let gates = c.args.gates.now in let queues = drop 1 (queues_of (first_home gates).value.directory) in
    let lines : into_iter_items at.outside ≡ sends ∷ left = c.in-Some-next.ensures.cases.0 in
    let here : drop place outside ≡ sends ∷ left = sym at.invariant.rows ∙ lines in
    let row : drop place (map (λ r. r.items) outside) ≡ sends.items ∷ map (λ r. r.items) left =
    drop-map (λ r. r.items) place outside ∙ ap (map (λ r. r.items)) here in
    let unused = unused-there queues (actors_of gates) most_actors (map (λ r. r.items) outside) place sends.items _ c.requires.for_senders.outside row in
    let number : c.len-in-loop-feed.result ≡ place = search rules in
    let feed = c.in-Some.feed in let rest = into_iter_items c.next.new.self in
    let steps : into_iter_items at.feed-iterator ≡ feed ∷ rest = c.in-Some.ensures.steps.0 in
    let these = subst (All (λ f. gates_of f ≡ Some (origin_of gates))) steps at.invariant.feeds in
    let pushed = c.in_ok-push.ensures.items in let count = at.invariant.count in
    let longer = ap length pushed ∙ length_push at.senders.items _ in let further = length_push at.yielded feed in
    let next : suc place ≡ length c.push.new.self.items = omega (arith, longer) in
    let parts = c.new-sender.ensures.parts in let send_log = c.new-sender.ensures.send_log in
    let long = ap vec_len parts.1 ∙ sends.ok.0 in let many = unused.same_count in record {
      whole = append_assoc at.yielded (feed ∷ []) rest ∙ ap (λ l. at.yielded ++ l) (sym steps) ∙ at.invariant.whole;
      feeds = All-rest (λ f. gates_of f ≡ Some (origin_of gates)) feed rest (into_iter_items at.feed-iterator) steps at.invariant.feeds;
      count = omega (arith, longer, further, count);
      rows = sym (drop-next place outside sends left here) ∙ ap (λ n. drop n outside) next;
      same_gates = c.new_pass.ensures.same_gates.0 ∙ at.invariant.same_gates;
      kept = (
        ap (λ (v : View). v.log) c.new_pass.ensures.known.0 ∙ at.invariant.kept.0,
        ap (λ (v : View). v.got) c.new_pass.ensures.known.0 ∙ at.invariant.kept.1,
        ap (λ (v : View). v.obligations) c.new_pass.ensures.known.0 ∙ at.invariant.kept.2,
        ap (λ (v : View). v.releases) c.new_pass.ensures.known.0 ∙ at.invariant.kept.3,
      );
      shares = keeps-next share_of_sender (pass_view c.args.pass.now).share (pass_view at.pass).share _ at.senders.items _ _
          (ap (λ (v : View). v.share) c.new_pass.ensures.known.0) pushed
          (ap (λ w. (pass_view w.pass).share) parts.0 ∙ ap (λ (v : View). v.share) c.new_pass.ensures.known.1) at.invariant.shares;
      opened = senders-next (λ r. r.items) gates most_actors at.senders.items _ _ outside sends left pushed here at.invariant.opened (record {
        same_gates = record {
          same_gates = (
            ap (λ w. pass_id w.pass) parts.0 ∙ c.new_pass.ensures.same_gates.1 ∙ at.invariant.same_gates ∙ c.requires.same_gates.0,
            ap (λ w. gates_of w.run_queue.feed) parts.0 ∙ ap gates_of c.new.ensures ∙ All-head (λ f. gates_of f ≡ Some (origin_of gates)) feed rest these,
            c.requires.same_gates.1,
          );
          all = omega (arith, long, many);
          queues = ap (λ v. receiving_queues v.items) parts.1 ∙ unused.queues_are;
        };
        by = send_log.0 ∙ ap (λ n. record { 0 = most_actors + n }) number;
        posted = send_log.2;
        sends_are = ap (λ v. v.items) parts.1;
        nobody = subst (λ w. IsNobody w.owed) (sym parts.0) c.none.ensures;
        settled = λ id. ap (λ w. obligation_to id (pass_view w.pass)) parts.0 ∙ ap (obligation_to id) c.new_pass.ensures.known.1;
        blank = ap (λ w. (pass_view w.pass).log) parts.0 ∙ ap (λ (v : View). v.log) c.new_pass.ensures.known.1;
        sent_nothing = ap (λ w. (pass_view w.pass).sent_system) parts.0 ∙ ap (λ (v : View). v.sent_system) c.new_pass.ensures.known.1;
        unclaimed = ap (λ w. (pass_view w.pass).got) parts.0 ∙ ap (λ (v : View). v.got) c.new_pass.ensures.known.1;
        none_released = ap (λ w. (pass_view w.pass).releases) parts.0 ∙ ap (λ (v : View). v.releases) c.new_pass.ensures.known.1;
      });
      keep_letters = subst (KeepLettersIn c.args.journal) (sym pushed)
          (All-push (λ (s : OutsideSender). s.send_log.dead.retention ≡ retention_of c.args.journal) at.senders.items _ at.invariant.keep_letters
          (ap (λ (l : KeptListView DeadLetter). l.retention) send_log.3 ∙ ap (λ (l : KeptListView DeadLetter). l.retention) c.in_ok-dead.ensures.made));
      ports = ap pool_feeds_of pushed ∙ map_push (λ (s : OutsideSender). s.registrar.run_queue.feed) at.senders.items _
          ∙ (λ i. at.invariant.ports i ++ (ap (λ w. w.run_queue.feed) parts.0 ∙ c.new.ensures) i ∷ []);
    }

pub returns-clause-opened : goal.returns-clause-opened
returns-clause-opened g c =
    let at = c.loop-feed in let outside = c.args.outside.items in
    let none : into_iter_items at.feed-iterator ≡ [] =
    nil_from_length (into_iter_items at.feed-iterator) (sym at.feed-iterator.rest.ok.0 ∙ c.in-None.ensures.steps.0) in
    let all : at.yielded ≡ c.args.feeds.items = sym (append-nil at.yielded) ∙ ap (λ l. at.yielded ++ l) (sym none) ∙ at.invariant.whole in
    let is = ap length all in let count = at.invariant.count in let many = c.requires.for_senders.same_count.0 in record {
      senders = subst (λ l. AreNewSenders c.args.gates.now most_actors (map (λ r. r.items) l) at.senders.items)
          (take_all (length at.senders.items) outside (omega (arith, is, count, many))) at.invariant.opened;
      keep_letters = at.invariant.keep_letters;
      ports = at.invariant.ports ∙ all;
    }

pub returns-clause-same_gates : goal.returns-clause-same_gates
returns-clause-same_gates g c = c.loop-feed.invariant.same_gates

pub returns-clause-kept : goal.returns-clause-kept
returns-clause-kept g c = c.loop-feed.invariant.kept

pub returns-clause-shares : goal.returns-clause-shares
returns-clause-shares g c = c.loop-feed.invariant.shares

pub returns-in_err-senders-clause-same_gates : goal.returns-in_err-senders-clause-same_gates
returns-in_err-senders-clause-same_gates g c = refl

pub returns-in_err-senders-clause-kept : goal.returns-in_err-senders-clause-kept
returns-in_err-senders-clause-kept g c = (refl, refl, refl, refl)

pub returns-in_err-push-clause-same_gates : goal.returns-in_err-push-clause-same_gates
returns-in_err-push-clause-same_gates g c = c.new_pass.ensures.same_gates.0 ∙ c.loop-feed.invariant.same_gates

pub returns-in_err-push-clause-kept : goal.returns-in_err-push-clause-kept
returns-in_err-push-clause-kept g c =
    let at = c.loop-feed.invariant.kept in let known = c.new_pass.ensures.known.0 in (
      ap (λ (v : View). v.log) known ∙ at.0,
      ap (λ (v : View). v.got) known ∙ at.1,
      ap (λ (v : View). v.obligations) known ∙ at.2,
      ap (λ (v : View). v.releases) known ∙ at.3,
    )

pub returns-in_err-dead-clause-same_gates : goal.returns-in_err-dead-clause-same_gates
returns-in_err-dead-clause-same_gates g c = c.loop-feed.invariant.same_gates

pub returns-in_err-dead-clause-kept : goal.returns-in_err-dead-clause-kept
returns-in_err-dead-clause-kept g c = c.loop-feed.invariant.kept
