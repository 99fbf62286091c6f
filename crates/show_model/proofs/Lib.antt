mod ShowValues
