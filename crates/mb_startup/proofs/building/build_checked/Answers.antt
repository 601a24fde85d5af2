use Rattle.std.proofs.Common.{◌≡◌, ◌+◌, ◌++◌, length, map, refl, sym, ap, ◌∙◌, subst, arith}
use Rattle.std.specs.Prelude.{All, Some}
use Rattle.std.proofs.lemmas.List.{length-map}
use Rattle.mb_msg.specs.Limits.{most_actors}
use Rattle.mb_ghost.specs.Shares.{IsWhole}
use Rattle.mb_ghost.proofs.SharesLemmas.{whole_one}
use Rattle.mb_gate.specs.Accessors.{first_home}
use Rattle.mb_gate.specs.View.{View}
use Rattle.mb_pool.specs.Made.{AreUnused}
use Rattle.mb_pool.specs.Places.{AreHandles, AreFeeds, gates_of}
use Rattle.mb_system.specs.Members.{pool_feeds_of}
use Rattle.mb_startup.proofs.NewGates.{all-numbered, all-once, all-senders, as-many-senders, handles-gates, feeds-gates}
use Rattle.mb_startup.proofs.Right.{right-plan}
use Rattle.mb_startup.proofs.Directories.{housed-plan}
use Rattle.mb_startup.proofs.Led.{all-led}
use Rattle.mb_startup.proofs.NewActors.{new-actors}
use Rattle.mb_startup.proofs.building.build_checked.Goals as goal

pub found-requires : goal.found-requires
found-requires g c =
    let right = right-plan c.args.plan (length c.args.actors.items) c.requires.right in record {
      within_limit = (right.within_limit, right.senders);
      within_journal = right.limit.1;
      right = (right.parents, right.bounds);
      same_count = sym right.as_many;
      behaved = c.requires.behaved;
    }

pub new-requires : goal.new-requires
new-requires g c =
    let right = right-plan c.args.plan (length c.args.actors.items) c.requires.right in let some = right.workers.0 in omega (arith, some)

pub open-requires : goal.open-requires
open-requires g c =
    let right = right-plan c.args.plan (length c.args.actors.items) c.requires.right in
    let founded = c.in_ok-gates.ensures.new_gates in let pool = c.in_ok-pool.ensures in let outside = c.in_ok-gates.field-0.outside in
    let of_pool = c.in_ok-pool.pool in let handles = c.in_ok-pool.handles.items in let feeds = c.in_ok-pool.feeds.items in
    let handles_are = handles-gates of_pool handles pool.are_handles in let feeds_are = feeds-gates of_pool feeds pool.are_feeds in
    let few = right.within_limit in let actors = founded.actors in let some = right.workers.0 in let workers = right.workers.1 in
    let as_many : length handles ≡ c.args.plan.workers = handles_are.1 ∙ pool.handles_are in
    let fed : length feeds ≡ c.args.plan.senders = feeds_are.1 ∙ pool.feeds_are in
    let rows = sym (length-map outside.items (λ row. row.items)) ∙ founded.rows in let senders = right.senders in record {
      pass = record {
        same_gates = c.in_ok-gates.ensures.pass.0;
        nothing_done = let known = c.in_ok-gates.ensures.pass.1 in
            (ap (λ (v : View). v.log) known, ap (λ (v : View). v.got) known, ap (λ (v : View). v.obligations) known, ap (λ (v : View). v.releases) known);
        whole = subst (λ (v : View). IsWhole v.share) (sym c.in_ok-gates.ensures.pass.1) whole_one;
      };
      actors = (omega (arith, actors), omega (arith, actors, few));
      not_empty = (omega (arith, as_many, some), omega (arith, as_many, workers));
      handles = subst (λ o. All (λ e. gates_of e ≡ Some o) handles) pool.gates handles_are.0;
      for_senders = record {
        feeds = subst (λ o. All (λ f. gates_of f ≡ Some o) feeds) pool.gates feeds_are.0;
        same_count = (fed ∙ sym rows, omega (arith, fed, senders));
        outside = founded.unused;
      };
    }

pub returns : goal.returns
returns g c =
    let right = right-plan c.args.plan (length c.args.actors.items) c.requires.right in
    let founded = c.in_ok-gates.ensures.new_gates in let housed = c.in_ok-gates.ensures.homes_made in let pool = c.in_ok-pool.ensures in
    let opened = c.in_ok-handles.ensures in let gates = c.in_ok-gates.field-0.gates in
    let outside = map (λ row. row.items) c.in_ok-gates.field-0.outside.items in let senders = c.in_ok-handles.field-0.senders.items in
    let handles_are = handles-gates c.in_ok-pool.pool c.in_ok-pool.handles.items pool.are_handles in let few = right.senders in
    let count : length senders ≡ c.args.plan.senders = as-many-senders gates most_actors outside senders opened.senders.senders ∙ founded.rows in record {
      together = record {
        handles = all-led gates c.in_ok-handles.field-0.handles.items opened.handles.handles;
        senders = all-senders gates most_actors outside senders opened.senders.senders;
        once = all-once gates outside senders opened.senders.senders (omega (arith, count, few));
        numbered = all-numbered gates most_actors (most_actors + c.args.plan.senders) outside senders opened.senders.senders (omega arith)
            (omega (arith, count));
      };
      kinds = housed.0;
      kinds_are = housed.2;
      homes = housed.1;
      outside = outside;
      homes_made = housed.3;
      first = housed.4;
      actors = housed.5;
      senders = opened.senders.senders;
      keep_letters = opened.senders.keep_letters;
      numbers = (refl, refl, refl);
      pool = pool.kind_is;
      of_pool = (
        subst (AreHandles c.in_ok-pool.pool) (sym opened.handles.ports) pool.are_handles,
        subst (AreFeeds c.in_ok-pool.pool) (sym opened.senders.ports) pool.are_feeds,
      );
      unused = subst (λ pool_handles. AreUnused (pool_handles ++ pool_feeds_of senders)) (sym opened.handles.ports)
          (subst (λ pool_feeds. AreUnused (c.in_ok-pool.handles.items ++ pool_feeds)) (sym opened.senders.ports) pool.unused);
      same_count = opened.handles.same_count ∙ handles_are.1 ∙ pool.handles_are;
      handle = opened.handles.handles.handle;
      others = opened.handles.handles.others;
      handles_are = opened.handles.handles.handles_are;
      others_are = opened.handles.handles.others_are;
      first_handle = opened.handles.handles.first_handle;
      created = opened.handles.handles.created;
      settled = opened.handles.handles.settled;
      unclaimed = opened.handles.handles.unclaimed;
      none_released = opened.handles.handles.none_released;
      whole = opened.whole;
      new_actors = new-actors g.K.Behaviours.gives c.args.plan gates most_actors outside c.in_ok-handles.field-0.handles.items senders
          (housed-plan g.K.Behaviours.gives c.args.plan housed.0 housed.1 outside (first_home gates) housed.2 housed.3 housed.4)
          opened.handles.handles opened.senders.senders opened.whole;
    }

pub invariant_of-system : goal.invariant_of-system
invariant_of-system g c =
    let right = right-plan c.args.plan (length c.args.actors.items) c.requires.right in let founded = c.in_ok-gates.ensures.new_gates in
    let few = right.within_limit in let actors = founded.actors in record {
      not_empty = right.workers.0;
      within_limit = (omega (arith, few, actors), right.senders);
      directory = founded.directory;
      known = founded.known;
    }
