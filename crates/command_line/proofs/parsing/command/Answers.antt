use Rattle.std.proofs.Common.{◌≡◌, ◌∙◌, ap, ap₂, codes, true}
use Rattle.std.proofs.lemmas.Result.{IfOk-weaker}
use Rattle.clap.specs.Words.{App, app_of, new_app, with_rule}
use Rattle.clap.specs.Simple.{app_of_fields, on_top}
use Rattle.command_line.proofs.parsing.command.Goals as goal

abbrev unnamed : App → App
unnamed = on_top (λ s. record s { no_binary_name = true })

abbrev unhelped : App → App
unhelped = on_top (λ s. record s { disable_help_flag = true })

pub returns : goal.returns
returns c =
    let plain : app_of c.disable_help_flag.result ≡ unhelped (unnamed (new_app (codes "bounds"))) =
    ap app_of_fields c.disable_help_flag.ensures ∙ ap unhelped (ap app_of_fields c.no_binary_name.ensures ∙ ap unnamed c.new.ensures.app) in
    let app-0 = c.in_ok-arg.ensures.shape c.word.ensures.local ∙ ap₂ with_rule plain c.word.ensures.rule in
    let app-1 = c.in_ok-arg-2.ensures.shape c.files.ensures.local ∙ ap₂ with_rule app-0 c.files.ensures.rule in
    let app-2 = c.in_ok-arg-3.ensures.shape c.option.ensures.local ∙ ap₂ with_rule app-1 c.option.ensures.rule in
    let app-3 = c.in_ok-arg-4.ensures.shape c.option-2.ensures.local ∙ ap₂ with_rule app-2 c.option-2.ensures.rule in
    let app-4 = c.in_ok-arg-5.ensures.shape c.option-3.ensures.local ∙ ap₂ with_rule app-3 c.option-3.ensures.rule in
    let app-5 = c.in_ok-arg-6.ensures.shape c.option-4.ensures.local ∙ ap₂ with_rule app-4 c.option-4.ensures.rule in
    let app-6 = c.in_ok-arg-7.ensures.shape c.option-5.ensures.local ∙ ap₂ with_rule app-5 c.option-5.ensures.rule in
    let app-7 = c.in_ok-arg-8.ensures.shape c.option-6.ensures.local ∙ ap₂ with_rule app-6 c.option-6.ensures.rule in
    let app-8 = c.in_ok-arg-9.ensures.shape c.option-7.ensures.local ∙ ap₂ with_rule app-7 c.option-7.ensures.rule in
    IfOk-weaker c.arg-10.result _ _ (λ r added. added.shape c.brief.ensures.local ∙ ap₂ with_rule app-8 c.brief.ensures.rule) c.arg-10.ensures
