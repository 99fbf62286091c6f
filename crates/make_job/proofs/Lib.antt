mod MakeNumbers
