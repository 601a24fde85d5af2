use Rattle.std.proofs.Common.{rules, ◌≡◌, length, refl, sym, inl, inr}
use Rattle.std.specs.Prelude.{string_bytes}
use Rattle.mb_explore.proofs.FoundLemmas.{is-over}
use Rattle.mb_explore.proofs.SearchLemmas.{goes-listed}
use Rattle.mb_explore.proofs.follow.see.Goals as goal

pub join-requires : goal.join-requires
join-requires g c = record {
  goes_on = let choices = c.in_ok-choices.choices in
      goes-listed c.args.world choices.items choices.len c.in_ok-choices.ensures choices.ok.0 (sym c.if-is_empty.ensures);
}

pub returns-then-is_empty : goal.returns-then-is_empty
returns-then-is_empty g c =
    let none : length c.in_ok-choices.choices.items ≡ 0 = search rules in
    inl (
      record {
        over = is-over c.args.world c.in_ok-choices.choices.items c.in_ok-choices.ensures none;
        text = string_bytes c.in_ok-text.text;
        told = c.in_ok-text.ensures;
        added = c.in_ok-add.ensures;
      },
      refl,
    )

pub returns : goal.returns
returns g c =
    let choices = c.in_ok-choices.choices in
    inr (
      goes-listed c.args.world choices.items choices.len c.in_ok-choices.ensures choices.ok.0 (sym c.if-is_empty.ensures),
      c.in_ok-join.ensures,
      refl,
    )
