use Rattle.std.proofs.Common.{◌≡◌, None, sym, ◌∙◌, [], ◌∷◌, ◌++◌, arith}
use Rattle.std.proofs.lemmas.Grind.{common_steps}
use Rattle.swi_devices.proofs.Entries.{lookup-put_other, lookup-put_same, lookup-push_other, lookup-push_same}
use Rattle.swi_devices.proofs.mem_shelf.put_entry.Goals as goal

pub returns-in-Some-clause-others : goal.returns-in-Some-clause-others
returns-in-Some-clause-others c =
    lookup-put_other c.args.entries.now.items c.args.name c.args.bytes c.in-Some.i (rw (← c.as_str.ensures.value, ← c.deref.ensures.value) (sym c.index_of.ensures ∙ c.in-Some.is))

pub returns-in-Some-clause-stands : goal.returns-in-Some-clause-stands
returns-in-Some-clause-stands c =
    lookup-put_same c.args.entries.now.items c.args.name c.args.bytes c.in-Some.i (rw (← c.as_str.ensures.value, ← c.deref.ensures.value) (sym c.index_of.ensures ∙ c.in-Some.is))

pub returns-clause-others : goal.returns-clause-others
returns-clause-others c =
    let grown : c.push.new.self.items ≡ c.args.entries.now.items ++ (c.args.name, c.args.bytes) ∷ [] = grind (arith, common_steps) in
    rw grown (lookup-push_other c.args.entries.now.items c.args.name c.args.bytes)

pub returns-clause-stands : goal.returns-clause-stands
returns-clause-stands c =
    let grown : c.push.new.self.items ≡ c.args.entries.now.items ++ (c.args.name, c.args.bytes) ∷ [] = grind (arith, common_steps) in
    let none : c.index_of.result ≡ None = grind (arith, common_steps) in
    rw grown (lookup-push_same c.args.entries.now.items c.args.name c.args.bytes (rw (← c.as_str.ensures.value, ← c.deref.ensures.value) (sym c.index_of.ensures ∙ none)))
