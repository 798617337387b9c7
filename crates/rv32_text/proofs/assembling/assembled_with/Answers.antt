use Rattle.std.proofs.Math.Path.{fun_ext}
use Rattle.rv32_text.specs.Found.{found_in}
use Rattle.rv32_text.proofs.Steps.{fails_whole, gives_whole, image_whole}
use Rattle.rv32_text.proofs.assembling.assembled_with.Goals as goal

pub returns-in-Err-clause-exact : goal.returns-in-Err-clause-exact
returns-in-Err-clause-exact c =
    fails_whole c.in-Err.refusal (found_in c.args.labels.now) c.args.text.now (fun_ext c.requires.labels) c.in-Err.ensures.exact

pub returns-in-Ok-clause-exact : goal.returns-in-Ok-clause-exact
returns-in-Ok-clause-exact c =
    gives_whole _ c.encoded.result (found_in c.args.labels.now) c.in-Ok.items.items c.deref.result.now c.args.text.now (fun_ext c.requires.labels) c.in-Ok.ensures.exact c.deref.ensures.value c.encoded.ensures

pub returns-in-Ok-clause-image : goal.returns-in-Ok-clause-image
returns-in-Ok-clause-image c =
    image_whole _ c.encoded.result (found_in c.args.labels.now) c.in-Ok.items.items c.deref.result.now c.args.text.now (fun_ext c.requires.labels) c.in-Ok.ensures.exact c.in-Ok.ensures.fit c.in-Ok.ensures.few c.deref.ensures.value c.encoded.ensures
